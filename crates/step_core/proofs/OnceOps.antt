-- A turn of one event made at once: what Deliver, Begin and Commit leave together.
use Rattle.step_core.proofs.Prelude.{◌≡◌, ◌∙◌, ap, sym, refl, subst, ℕ, suc, Bool, true, false, ◌&&◌, not, List, [], ◌∷◌, ◌++◌, map, Option, Some, None, append_assoc, IsEquality, grain_equality, sub_equality, same_grain, same_sub, value_at, with_value, SubName, deliver-delivered, with_value-at, Progress, after_begin, after_commit, and_then, deliver_up_to, go_on, joined, next_note, Entry, events_at, grain_at, is_spent, new_grain, sub_at, token_at, delivered, Reply, Leads, begun, Begin, Commit, Deliver, Grain, PlainPartition, Subscription}
use Rattle.std.proofs.Common.{if◌then◌else◌, unwrap_or}
use Rattle.stream_model.specs.declared.plain.Delivery.{Delivery}
use Rattle.stream_model.specs.declared.reply.Reply.TheVariants as reply
use Rattle.stream_model.specs.Draining as draining
use Rattle.stream_model.specs.Draining.{after_deliver, take_turn}
use Rattle.stream_model.specs.Pulling.{woken}
use Rattle.stream_model.specs.Step.{step}
use Rattle.stream_model.specs.Turns.{committed}
use Rattle.stream_laws.proofs.DrainBegin.{begin-turn, busy_grain, commit-turn, ready_grain, turn_of}
use Rattle.stream_laws.proofs.FitsOne.{with_value-same}
use Rattle.stream_laws.proofs.IdleGrains.{grain-set}
use Rattle.step_core.specs.DrainPhases.{Ends}
use Rattle.step_core.specs.Serving.{resting_grain, turned, with_turn, CanTurn}
use Rattle.step_core.proofs.DrainSteps.{ends-behind}

-- a value set twice is the later one
pub with_value-twice : {K V : Type 0} (same : K → K → Bool) → IsEquality same → (k : K) (v w : V) (entries : List (K × V)) → with_value same k w (with_value same k v entries) ≡ with_value same k w entries
with_value-twice same is k v w [] = rw (is.reflexive k) refl
with_value-twice {K} {V} same is k v w (entry ∷ entries) =
    (elim (same k entry.0) as (λ b. same k entry.0 ≡ b → with_value same k w (if b then (entry.0, v) ∷ entries else entry ∷ with_value same k v entries) ≡ (if b then (entry.0, w) ∷ entries else entry ∷ with_value same k w entries)) [
      | true ↦ λ here. rw here refl
      | false ↦ λ there. rw there (ap (λ rest. entry ∷ rest) (with_value-twice same is k v w entries))
    ]) refl

-- what a value that is set leaves of the entries, where it is read of both values alike
pub with_value-map : {K V X : Type 0} (f : K × V → X) (same : K → K → Bool) (k : K) (old new : V) (entries : List (K × V)) → value_at same k entries ≡ Some old → ((key : K) → f (key, new) ≡ f (key, old)) → map f (with_value same k new entries) ≡ map f entries
with_value-map f same k old new [] found alike = absurd (cc)
with_value-map {K} {V} {X} f same k old new (entry ∷ entries) found alike =
    (elim (same k entry.0) as (λ b. (if b then Some entry.1 else value_at same k entries) ≡ Some old → map f (if b then (entry.0, new) ∷ entries else entry ∷ with_value same k new entries) ≡ f entry ∷ map f entries) [
      | true ↦ λ here.
          let is_old : entry.1 ≡ old = cc in
          ap (λ (x : X). x ∷ map f entries) (alike entry.0 ∙ ap (λ (v : V). f (entry.0, v)) (sym is_old))
      | false ↦ λ there. ap (λ rest. f entry ∷ rest) (with_value-map f same k old new entries there alike)
    ]) found

-- entries in front of a progress stay in front of what follows it
go_on-joined : (first entries : List Entry) (p : PlainPartition) (stop : Option draining.Stop) (next : PlainPartition → Progress) → go_on (first ++ entries) p stop next ≡ joined first (go_on entries p stop next)
go_on-joined first entries p None next = ap (λ es. record (next p) { entries = es }) (append_assoc first entries (next p).entries)
go_on-joined first entries p (Some why) next = refl

and_then-joined : (first : List Entry) (m : Progress) (next : PlainPartition → Progress) → and_then (joined first m) next ≡ joined first (and_then m next)
and_then-joined first m next = go_on-joined first m.entries m.now m.stop next

module _ (p : PlainPartition) (s : SubName) (r : Subscription) (position activation : ℕ) (can : CanTurn p s r position activation) where
  abbrev st : Grain
  st = resting_grain activation

  abbrev d : Delivery
  d = record { sub = s; position = position }

  was : grain_at p r.grain ≡ st
  was = ap (λ (o : Option Grain). unwrap_or o new_grain) can.rests

  -- Deliver

  abbrev r1 : Subscription
  r1 = record r { cursor = suc position }

  abbrev p1 : PlainPartition
  p1 = delivered p s r st position

  delivers : step p (Deliver p.generation s) ≡ (p1, reply.Delivered (token_at p position))
  delivers =
      deliver-delivered p s r position can.found can.is_open can.next (ap (λ (st : Grain). st.mailbox) was) (ap (λ (st : Grain). not st.active && is_spent p) was)
      ∙ ap {B = PlainPartition × Reply} (λ (st : Grain). (delivered p s r st position, reply.Delivered (token_at p position))) was

  ready : value_at same_grain r.grain p1.grains ≡ Some (ready_grain activation d [])
  ready = with_value-at same_grain grain_equality r.grain (woken st s position) p.grains

  found1 : sub_at p1 s ≡ Some r1
  found1 = with_value-at same_sub sub_equality s r1 p.subs

  -- Begin

  abbrev busy : Grain
  busy = busy_grain p1 activation d []

  abbrev p2 : PlainPartition
  p2 = begun p1 r.grain (ready_grain activation d []) s (position ∷ [])

  begins : step p1 (Begin r.grain 1) ≡ (p2, reply.Turn s activation (suc p1.turns) (events_at p1.log (position ∷ [])) r.note)
  begins = begin-turn p1 r.grain activation d [] r1 (ap (λ (o : Option Grain). unwrap_or o new_grain) ready) found1 can.fresh can.left

  -- Commit

  abbrev p3 : PlainPartition
  p3 = committed p2 r.grain busy (turn_of p1 d) r1 (next_note r.note)

  commits : step p2 (Commit r.grain activation (suc p1.turns) (next_note r.note)) ≡ (p3, reply.Committed s (token_at p2 position))
  commits = commit-turn p2 r.grain busy (turn_of p1 d) (next_note r.note) r1 (grain-set p2 p1.grains r.grain busy refl) refl found1 can.is_open

  -- all three

  subs-same : p3.subs ≡ with_value same_sub s (turned r position) p.subs
  subs-same = with_value-twice same_sub sub_equality s r1 (turned r position) p.subs

  grains-same : p3.grains ≡ p.grains
  grains-same =
      with_value-twice same_grain grain_equality r.grain busy st (with_value same_grain r.grain (woken st s position) p.grains)
      ∙ with_value-twice same_grain grain_equality r.grain (woken st s position) st p.grains
      ∙ with_value-same same_grain r.grain st p.grains can.rests

  together : p3 ≡ with_turn p s r position
  together = λ i. record (with_turn p s r position) { subs = subs-same i; grains = grains-same i }

  -- their entries

  abbrev delivery : Entry
  delivery = record { op = Deliver p.generation s; reply = reply.Delivered (token_at p position) }

  abbrev begin : Entry
  begin = record { op = Begin r.grain 1; reply = reply.Turn s activation (suc p1.turns) (events_at p1.log (position ∷ [])) r.note }

  abbrev commit : Entry
  commit = record { op = Commit r.grain activation (suc p1.turns) (next_note r.note); reply = reply.Committed s (token_at p2 position) }

  abbrev entries : List Entry
  entries = delivery ∷ begin ∷ commit ∷ []

  leads-by : (p q : PlainPartition) (e : Entry) (rest : List Entry) (r : PlainPartition) → step p e.op ≡ (q, e.reply) → Leads q rest r → Leads p (e ∷ rest) r
  leads-by p q e rest r is leads =
      (ap (λ (out : PlainPartition × Reply). out.1) is, subst (λ (x : PlainPartition). Leads x rest r) (sym (ap (λ (out : PlainPartition × Reply). out.0) is)) leads)

  leads-turn : Leads p entries (with_turn p s r position)
  leads-turn =
      subst (Leads p entries) together
      (leads-by p p1 delivery (begin ∷ commit ∷ []) p3 delivers (leads-by p1 p2 begin (commit ∷ []) p3 begins (leads-by p2 p3 commit [] p3 commits refl)))

  pub turn-leads : (entries : List Entry) × Leads p entries (with_turn p s r position)
  turn-leads = (entries, leads-turn)

  -- and what follows them

  takes : take_turn r.grain p1 ≡ record { entries = begin ∷ commit ∷ []; now = p3; stop = None }
  unfolding take_turn
  takes =
      ap (λ (out : PlainPartition × Reply). joined (record { op = begin.op; reply = out.1 } ∷ []) (after_begin r.grain out.0 out.1)) begins
      ∙ ap (λ (out : PlainPartition × Reply). joined (begin ∷ []) (joined (record { op = commit.op; reply = out.1 } ∷ []) (after_commit out.0 out.1))) commits

  goes_on : (n : ℕ) → deliver_up_to (suc n) s r.grain p ≡ joined entries (deliver_up_to n s r.grain p3)
  unfolding after_deliver
  goes_on n =
      ap (λ (out : PlainPartition × Reply). joined (record { op = delivery.op; reply = out.1 } ∷ []) (after_deliver (suc n) s r.grain out.0 out.1)) delivers
      ∙ ap (λ m. joined (delivery ∷ []) (and_then m (deliver_up_to n s r.grain))) takes

  -- what is done after the turn is done after the three
  pub turn-more : (n : ℕ) (next : PlainPartition → Progress) (new : PlainPartition) (end : Option (Option draining.Stop))
      → Ends (with_turn p s r position) new end (and_then (deliver_up_to n s r.grain (with_turn p s r position)) next) → Ends p new end (and_then (deliver_up_to (suc n) s r.grain p) next)
  turn-more n next new end rest =
      let q = with_turn p s r position in
      let whole : joined entries (and_then (deliver_up_to n s r.grain q) next) ≡ and_then (deliver_up_to (suc n) s r.grain p) next =
      sym (and_then-joined entries (deliver_up_to n s r.grain q) next)
      ∙ ap (λ (x : PlainPartition). and_then (joined entries (deliver_up_to n s r.grain x)) next) (sym together)
      ∙ ap (λ m. and_then m next) (sym (goes_on n)) in
      subst (Ends p new end) whole (ends-behind p q new entries end (and_then (deliver_up_to n s r.grain q) next) leads-turn rest)
