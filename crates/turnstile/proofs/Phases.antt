-- The phases of a call, over the bare seat: what each asks of the one before, and what they come to.
use Rattle.turnstile.proofs.Prelude.{TableId, ◌≡◌, ◌≢◌, ℕ, ◌+◌, ◌%◌, ◌<◌, Bool, true, false, if◌then◌else◌, List, [], ◌∷◌, ◌++◌, length, drop, Option, Some, None, refl, sym, ap, ◌∙◌, subst, arith, length-append, none-some, same_Some}
use Rattle.std.specs.Option.{IsSome}
use Rattle.atomic_table.specs.Table.{State, Allows, rest}
use Rattle.turnstile.specs.declared.history.Entry.{Entry}
use Rattle.turnstile.specs.declared.view.Held.{Held}
use Rattle.turnstile.specs.declared.view.Start.{Start}
use Rattle.turnstile.specs.declared.view.View.{View}
use Rattle.turnstile.specs.Calls.{IsOf, IsTurn}
use Rattle.turnstile.specs.History.{times, replay, entry}
use Rattle.turnstile.specs.Plays.{Sat, first_of, looked, Turn, left, Begun, MayLeave, MayNote, Applied, gone}
use Rattle.turnstile.specs.Passes.{Origin, PassView, opened, origin, pass_view, turn_view}
use Rattle.turnstile.specs.Turns.{Turning}
use Rattle.turnstile.proofs.Histories.{legal_snoc, replay_snoc}
use Rattle.turnstile.proofs.Keeps.{any_step, looks, serves}
use Rattle.turnstile.proofs.Totals.{times_same}

module _ {S : Type 0} where
  -- the seat of a pass of a turnstile is of its table, and knows how it began
  pub is_of : (z w : TableId) (x : Option (Start S)) (y : Start S) → origin z x ≡ Some (opened w y) → (z ≡ w) × (x ≡ Some y)
  is_of z w (Some x) y e = let same : opened z x ≡ opened w y = same_Some (opened z x) (opened w y) e in (ap (λ (t : Origin S). t.table) same, ap (λ (t : Origin S). Some t.start) same)
  is_of z w None y e = absurd (none-some (opened w y) e)

  -- and it has no turn
  at_rest : (z w : TableId) (come : Bool) (x : Option (Start S)) (y : Start S) → (if come then None else origin z x) ≡ Some (opened w y) → (z ≡ w) × (x ≡ Some y) × (come ≡ false)
  at_rest z w true x y e = absurd (none-some (opened w y) e)
  at_rest z w false x y e = let h = is_of z w x y e in (h.0, h.1, refl)

  -- the same of one that has a turn
  at_turn : (z w : TableId) (come : Bool) (x : Option (Start S)) (y : Start S) → (if come then origin z x else None) ≡ Some (opened w y) → (z ≡ w) × (x ≡ Some y) × (come ≡ true)
  at_turn z w false x y e = absurd (none-some (opened w y) e)
  at_turn z w true x y e = let h = is_of z w x y e in (h.0, h.1, refl)

module _ {S O R : Type 0} where
  -- the same, of what contracts see
  pub seated : (q : PassView O R S) (t : Origin S) (z w : TableId) (v : View S O R) (k : ℕ) (x : Start S) → pass_view z v k ≡ q → opened w x ≡ t → IsOf t q → (z ≡ w) × (v.start ≡ Some x) × (v.come ≡ false)
  seated q t z w v k x pass turnstile of = at_rest z w v.come v.start x (ap (λ (p : PassView O R S). p.turnstile) pass ∙ (of ∙ ap (λ (s : Origin S). Some s) (sym turnstile)))

  -- what holds of the fields holds of what contracts see
  pub shown : (P : Start S → PassView O R S → Type 0) (q : PassView O R S) (t : Origin S) (z w : TableId) (v : View S O R) (k : ℕ) (x : Start S) → pass_view z v k ≡ q → opened w x ≡ t → P x (pass_view z v k) → P t.start q
  shown P q t z w v k x pass turnstile h = subst (λ (s : Start S). P s q) (ap (λ (o : Origin S). o.start) turnstile) (subst (P x) pass h)

module _ {X H S O R : Type 0} (entries : H → List (Entry O R)) (state : X → S) (reply : S → O → R) (after : S → O → S) (start : Start S) where
  abbrev M : Type 0
  M = Sat X H S O R

  abbrev Slot : Type 0
  Slot = Option (Held X H)

  abbrev Holds : State Slot (View S O R) → Type 0
  Holds = Turning entries state reply after start

  abbrev first_slot : List (ℕ × Slot) → Slot
  first_slot [] = None
  first_slot (c ∷ cs) = c.1

  abbrev ticketed : M → ℕ → M
  ticketed m t = (record m.0 { tickets = t ∷ [] }, m.1)

  -- it may look once it has a ticket: m is the seat before it drew, and m' the same in the loop
  pub may_look : (slots id : ℕ) (m m' : M) (t : ℕ) → m' ≡ ticketed m t → m.1 ≡ [] → m.0.come ≡ false → Allows Holds slots id m' 2 (λ n. n) (looked entries state reply after (any_step entries state reply after start) m')
  may_look slots id m m' t is empty idle = looks entries state reply after start slots id m' t (ap (λ (n : M). n.1) is ∙ empty) (ap (λ (n : M). n.0.tickets) is) (ap (λ (n : M). n.0.come) is ∙ idle)

  -- its turn has come where the ticket is served
  pub its_turn : (m m' n : M) (t found ticket : ℕ) → m' ≡ ticketed m t → ticket ≡ t % 18446744073709551616 → looked entries state reply after (any_step entries state reply after start) m' found n → found ≡ ticket
      → Turn entries state reply after (record m.0 { tickets = t ∷ [] }) n
  its_turn m m' n t found ticket is drawn look equal =
      subst (λ (z : M). Turn entries state reply after z.0 n) is (look.0 (equal ∙ (drawn ∙ ap (λ (z : M). first_of z.0.tickets % 18446744073709551616) (sym is))))

  pub not_yet : (m m' n : M) (t found ticket : ℕ) → m' ≡ ticketed m t → ticket ≡ t % 18446744073709551616 → looked entries state reply after (any_step entries state reply after start) m' found n → found ≢ ticket → n ≡ m'
  not_yet m m' n t found ticket is drawn look other = look.1 (λ equal. other (equal ∙ (ap (λ (z : M). first_of z.0.tickets % 18446744073709551616) is ∙ sym drawn)))

  -- the slot that it then has
  pub slot_here : (v : View S O R) (m : M) → (turn : Turn entries state reply after v m) → m.1 ≡ (0, Some turn.held) ∷ rest m.1
  slot_here v m turn = turn.slot ∙ ap (λ (c : List (ℕ × Slot)). (0, Some turn.held) ∷ rest c) (sym turn.slot)

  pub slot_full : (v : View S O R) (m : M) (r : Slot) → Turn entries state reply after v m → m.1 ≡ (0, r) ∷ rest m.1 → IsSome r
  slot_full v m r turn here = subst IsSome (ap first_slot (sym turn.slot ∙ here)) refl

  -- it takes the value out
  pub begun : (v : View S O R) (t : ℕ) (m n : M) (r : Slot) (held : Held X H) → v.start ≡ Some start → Turn entries state reply after (record v { tickets = t ∷ [] }) m → m.1 ≡ (0, r) ∷ rest m.1 → n ≡ (m.0, (0, None) ∷ rest m.1) → r ≡ Some held
      → Begun entries state reply after start v held n
  begun v t m n r held begins turn here is out =
      let same : turn.held ≡ held = same_Some turn.held held (ap first_slot (sym turn.slot ∙ here) ∙ out) in
      let facts = turn.legal start begins in
      rw (← same) record {
        ticket = t;
        seat = is ∙ (λ i. (turn.view i, (0, None) ∷ rest (turn.slot i)));
        claims = turn.claims;
        legal = facts.0;
        object = facts.1;
        bounded = facts.2;
      }

  abbrev putting : M → Held X H → M
  putting m held = (m.0, (0, Some held) ∷ rest m.1)

  -- with nothing added, it may leave
  pub may_leave : (slots id : ℕ) (m m' : M) (held : Held X H) → slots ≡ 1 → MayLeave entries state reply after start held m → m' ≡ putting m held
      → Allows Holds slots id m' 2 (λ n. (n + 1) % 18446744073709551616) (left (any_step entries state reply after start) m')
  may_leave slots id m m' held one may is =
      let seen : m'.0.seen ≡ m.0.seen = ap (λ (n : M). n.0.seen) is in
      serves entries state reply after start slots id m' held one (ap (λ (n : M). n.0.come) is ∙ may.come) (ap (λ (n : M). n.1) is ∙ ap (λ (c : List (ℕ × Slot)). (0, Some held) ∷ rest c) may.slot)
      (may.history ∙ sym seen) (may.object ∙ ap (replay reply after start.state) (sym seen))

  pub has_left : (m m' n : M) (held : Held X H) → MayLeave entries state reply after start held m → m' ≡ putting m held → left (any_step entries state reply after start) m' 0 n → n ≡ gone entries held m
  has_left m m' n held may is went =
      went ∙ (ap (λ (k : M). (record k.0 { tickets = []; come = false }, rest k.1)) is ∙ (λ i. (record m.0 { seen = sym may.history i; tickets = []; come = false }, rest (may.slot i))))

  -- what a call did in a turn lets it note the entry
  pub applied : (z w : TableId) (m : M) (held held' : Held X H) (k : ℕ) (op : O) (r : R) → IsTurn reply after (opened w start) (pass_view z m.0 k) (turn_view entries state (Some held))
      → m.0.past ≡ [] → m.0.numbers ≡ k ∷ drop 1 m.0.numbers → Applied entries state reply after held k op r held' → length (entries held.history) < start.limit → MayNote entries reply after start (Some held') m
  applied z w m held held' k op r turn past named did room = record {
    come = (at_turn z w m.0.come m.0.start start turn.turn).2;
    past = past;
    entry = entry k op r;
    history = did.0 ∙ ap (λ (l : List (Entry O R)). l ++ entry k op r ∷ []) turn.whole;
    own = omega (arith, ap (times k) named ∙ times_same k k (drop 1 m.0.numbers) refl);
    right = did.1 ∙ ap (λ (s : S). reply s op) (same_Some (state held.object) (replay reply after start.state m.0.seen) turn.object);
    room = subst (λ (l : List (Entry O R)). length l < start.limit) turn.whole room;
  }

  -- what contracts see of a pass once its entry is noted
  pub noted_view : (p q : PassView O R S) (z z' : TableId) (m n : M) (k : ℕ) (es : List (Entry O R)) → pass_view z m.0 k ≡ p → q ≡ pass_view z' n.0 k → z' ≡ z → n ≡ (record m.0 { seen = es }, m.1) → q ≡ record p { seen = es }
  noted_view p q z z' m n k es old new table noted =
      new ∙ ((λ i. pass_view (table i) (noted i).0 k) ∙ ap (λ (u : PassView O R S). record u { seen = es }) old)

  -- the turn once the entry is noted
  pub turn_noted : (t : Origin S) (p q : PassView O R S) (held held' : Held X H) (k : ℕ) (op : O) (r : R) → IsTurn reply after t p (turn_view entries state (Some held))
      → Applied entries state reply after held k op r held' → length (entries held.history) < t.start.limit → q ≡ record p { seen = entries held'.history } → IsTurn reply after t q (turn_view entries state (Some held'))
  turn_noted t p q held held' k op r turn did room same =
      let object : state held.object ≡ replay reply after t.start.state p.seen = same_Some (state held.object) (replay reply after t.start.state p.seen) turn.object in
      let longer : entries held'.history ≡ p.seen ++ entry k op r ∷ [] = did.0 ∙ ap (λ (l : List (Entry O R)). l ++ entry k op r ∷ []) turn.whole in
      rw same record {
        turn = turn.turn;
        whole = refl;
        legal = rw longer (legal_snoc reply after t.start.state p.seen (entry k op r) turn.legal (did.1 ∙ ap (λ (s : S). reply s op) object));
        object = ap (λ (s : S). Some s) (did.2 ∙ (ap (λ (s : S). after s op) object ∙ (sym (replay_snoc reply after t.start.state p.seen (entry k op r)) ∙ ap (replay reply after t.start.state) (sym longer))));
        bounded = omega (arith, ap length longer ∙ length-append p.seen (entry k op r ∷ []), ap length turn.whole, room);
      }
