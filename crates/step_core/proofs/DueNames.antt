-- What a drain serves: the open subscriptions that are due, in the order of their names. The others are settled.
use Rattle.step_core.proofs.Prelude.{◌≡◌, ◌∙◌, ap, sym, refl, subst, ℕ, ◌<◌, ◌≤◌, ◌&&◌, ◌||◌, nat_lt, Bool, true, false, List, [], ◌∷◌, ◌++◌, filter, length, Option, Some, None, arith, and_parts, both_ways, cond_both, eq-eqb, false_from_ne_true, le-leb, lt-ltb, ltb-false, or_parts, or_right, append-nil, length-append, AllByRecursion, list_any, option_map, is_some, IfNone, IfSome, All-weaken, sub_equality, or_else-parts, same_sub, sub_lt, above, is_above, keys_where, least, next_after, or_else, past, SubName, next-bounds, open_names, is_due, next_position, sub_at, IsReached, PlainPartition, Subscription}
use Rattle.std.specs.Bool.{then_some}
use Rattle.stream_ident.proofs.NameOrders.{sub_order}
use Rattle.stream_laws.proofs.DrainServe.{IsOpenAt, open-names}
use Rattle.stream_laws.proofs.KeyLists.{All-keys_where, any-in_order, any-keys_where, each-entry, keys_where-empty}
use Rattle.stream_laws.proofs.NearSteps.{near-legal}
use Rattle.stream_laws.proofs.Unique.{AreUnique}
use Rattle.stream_laws.proofs.UniqueSteps.{steady-legal}
use Rattle.stream_model.specs.Draining as draining
use Rattle.stream_model.specs.Draining.{serve, serve_each}
use Rattle.stream_model.specs.Positions.{is_unacknowledged}
use Rattle.step_core.specs.declared.draining.Stop.{Stop}
use Rattle.step_core.specs.Deliverables.{is_deliverable}
use Rattle.step_core.specs.DrainPhases.{Ends, halted}
use Rattle.step_core.specs.Serving.{is_settled_in, next_due}
use Rattle.step_core.proofs.DrainLoops.{Suffices}
use Rattle.step_core.proofs.DrainSteps.{ends-halted, ends-then}
use Rattle.step_core.proofs.KeptNames.{open_keys, served-keeps}
use Rattle.step_core.proofs.RisingNames.{AreRising, IsSplit, above-filter, apart-keys, least-is, least-past, none-past, not-passed, of-any, rising-in_order, split-at}
use Rattle.step_core.proofs.SettledOps.{serves-settled}
use Rattle.step_core.proofs.Shared.{history-of}

-- ---- the next that is due

-- where the search that begins again finds nothing, none is due past the given one
pub due-none-past : (after : Option SubName) (xs : List SubName) → next_after sub_lt after xs ≡ None → least sub_lt (above sub_lt after xs) ≡ None
due-none-past after xs none = (or_else-parts (least sub_lt (above sub_lt after xs)) (least sub_lt xs) none).0

by-least : (after : Option SubName) (xs : List SubName) (d : SubName) (P : Option SubName → Type 0) → next_after sub_lt after xs ≡ Some d → (least sub_lt (above sub_lt after xs) ≡ Some d → P (Some d)) → (least sub_lt (above sub_lt after xs) ≡ None → least sub_lt xs ≡ Some d → P None) → P (least sub_lt (above sub_lt after xs))
by-least after xs d P is past wrapped =
    (elim (least sub_lt (above sub_lt after xs)) as (λ (o : Option SubName). least sub_lt (above sub_lt after xs) ≡ o → or_else o (least sub_lt xs) ≡ Some d → P o) [
      | None ↦ λ none again. wrapped none again
      | Some e ↦ λ found same. let here : e ≡ d = cc in subst (λ (x : SubName). least sub_lt (above sub_lt after xs) ≡ Some x → P (Some x)) (sym here) past found
    ]) refl is

-- where it finds one past the given one, that is the next
pub due-past : (after : Option SubName) (xs : List SubName) (d : SubName) → next_after sub_lt after xs ≡ Some d → is_above sub_lt after d ≡ true → Some d ≡ least sub_lt (above sub_lt after xs)
due-past after xs d is past =
    by-least after xs d (λ (o : Option SubName). Some d ≡ o) is (λ _. refl)
    (λ none again.
    let among = (least-past sub_lt same_sub sub_order sub_equality None d xs again).1 in
    absurd (both_ways (is_above sub_lt after d) (none-past sub_lt same_sub sub_order sub_equality after d xs among none) past))

-- and where it finds another, none is
due-wrapped : (after : Option SubName) (xs : List SubName) (d : SubName) → next_after sub_lt after xs ≡ Some d → is_above sub_lt after d ≡ false → None ≡ least sub_lt (above sub_lt after xs)
due-wrapped after xs d is wrapped =
    by-least after xs d (λ (o : Option SubName). None ≡ o) is
    (λ found. absurd (both_ways (is_above sub_lt after d) wrapped (least-past sub_lt same_sub sub_order sub_equality after d xs found).0)) (λ _ _. refl)

-- so the test of what is found decides
pub due-by : (name : ℕ → SubName) (after : Option SubName) (xs : List SubName) (number : ℕ) → next_after sub_lt after xs ≡ Some (name number) → (b : Bool) → b ≡ is_above sub_lt after (name number) → option_map name (then_some b number) ≡ least sub_lt (above sub_lt after xs)
due-by name after xs number is true past = due-past after xs (name number) is (sym past)
due-by name after xs number is false wrapped = due-wrapped after xs (name number) is (sym wrapped)

-- from the least of all on
pub due-first : (name : ℕ → SubName) (xs : List SubName) (next : Option SubName) → next_after sub_lt None xs ≡ next → (found : Option ℕ) → IfNone found (next ≡ None) → IfSome found (λ number. next ≡ Some (name number))
    → option_map name found ≡ least sub_lt (above sub_lt None xs)
due-first name xs next is None none some = sym (due-none-past None xs (is ∙ none))
due-first name xs next is (Some number) none some = due-past None xs (name number) (is ∙ some) refl

-- ---- open names

unique-of : (p : PlainPartition) → IsReached p → AreUnique same_sub p.subs
unique-of p reached = (steady-legal reached.blocks reached.limits reached.history p reached.stands).subs

rising-names : (p : PlainPartition) → IsReached p → AreRising sub_lt same_sub sub_order sub_equality (open_names p)
rising-names p reached =
    rising-in_order sub_lt same_sub sub_order sub_equality (open_keys p) (apart-keys sub_lt same_sub sub_order sub_equality (λ (r : Subscription). r.is_open) p.subs (unique-of p reached))

-- what is due is open
abbrev IsAmong : PlainPartition → SubName → Type 0
IsAmong p s = list_any (same_sub s) (open_names p) ≡ true

due-among-open : (p : PlainPartition) (d : SubName) → IsReached p → list_any (same_sub d) (keys_where (is_due p) p.subs) ≡ true → IsAmong p d
due-among-open p d reached due =
    of-any sub_lt same_sub sub_order sub_equality (IsAmong p) d (keys_where (is_due p) p.subs)
    (All-keys_where (IsAmong p) (is_due p) p.subs
    (each-entry same_sub sub_equality (λ (s : SubName) (r : Subscription). is_due p r ≡ true → IsAmong p s) p.subs (unique-of p reached)
    (λ s r found is. any-in_order (same_sub s) sub_lt (open_keys p) ∙ any-keys_where same_sub (λ (r : Subscription). r.is_open) s r p.subs found (and_parts r.is_open (is_unacknowledged r || nat_lt r.resume p.high) is).0))) due

-- ---- what can be delivered

-- what has a next event is due
deliverable-due : (p : PlainPartition) (s : SubName) (r : Subscription) → IsReached p → sub_at p s ≡ Some r → is_deliverable p r ≡ true → is_due p r ≡ true
deliverable-due p s r reached found is =
    let parts = and_parts r.is_open (is_some (next_position p r)) is in
    let history = history-of p reached in
    let served = (history.fits.subs s r found).served parts.0 in
    let below : nat_lt r.resume p.high ≡ true = lt-ltb r.resume p.high (omega (arith, next-within p r (next_position p r) refl parts.1, served.resume_cursor)) in
    rw (parts.0, below) (or_right (is_unacknowledged r) true refl)
  where
    next-within : (p : PlainPartition) (r : Subscription) (next : Option ℕ) → next_position p r ≡ next → is_some next ≡ true → r.cursor < p.high
    next-within p r None is some = absurd (cc)
    next-within p r (Some position) is some = let bounds = next-bounds p r position is in omega (arith, bounds.0, bounds.1)

-- each subscription that has a next event is past the last one
abbrev pub ArePast : PlainPartition → Option SubName → Type 0
ArePast p last = (s : SubName) (r : Subscription) → sub_at p s ≡ Some r → is_deliverable p r ≡ true → is_above sub_lt last s ≡ true

among-dues : (p : PlainPartition) (s : SubName) (r : Subscription) → IsReached p → sub_at p s ≡ Some r → is_deliverable p r ≡ true → list_any (same_sub s) (keys_where (is_due p) p.subs) ≡ true
among-dues p s r reached found is = any-keys_where same_sub (is_due p) s r p.subs found (deliverable-due p s r reached found is)

pub past-more : (p : PlainPartition) (last : Option SubName) (d : SubName) (r : Subscription) → IsReached p → ArePast p last → Some d ≡ next_due p last → sub_at p d ≡ Some r → is_deliverable p r ≡ false → ArePast p (Some d)
past-more p last d r reached before next found nothing s q at is =
    let not_below : sub_lt s d ≡ false = not-passed sub_lt same_sub sub_order sub_equality last s d (keys_where (is_due p) p.subs) (among-dues p s q reached at is) (before s q at is) (sym next) in
    (elim (same_sub s d) as (λ b. same_sub s d ≡ b → sub_lt d s ≡ true) [
      | true ↦ λ here.
          let same : q ≡ r = (let facts = sym at ∙ ap (sub_at p) (sub_equality.equal s d here) ∙ found in cc) in
          absurd (both_ways (is_deliverable p r) nothing (ap (is_deliverable p) (sym same) ∙ is))
      | false ↦ λ other. sub_order.rest s d not_below other
    ]) refl

pub least-found : (p : PlainPartition) (last : Option SubName) (d : SubName) (r : Subscription) → IsReached p → ArePast p last → Some d ≡ next_due p last → sub_at p d ≡ Some r → is_deliverable p r ≡ true → Some d ≡ least sub_lt (keys_where (is_deliverable p) p.subs)
least-found p last d r reached before next found is =
    least-is sub_lt same_sub sub_order sub_equality d (keys_where (is_deliverable p) p.subs) (any-keys_where same_sub (is_deliverable p) d r p.subs found is)
    (All-keys_where (λ (s : SubName). sub_lt s d ≡ false) (is_deliverable p) p.subs
    (each-entry same_sub sub_equality (λ (s : SubName) (q : Subscription). is_deliverable p q ≡ true → sub_lt s d ≡ false) p.subs (unique-of p reached)
    (λ s q at has. not-passed sub_lt same_sub sub_order sub_equality last s d (keys_where (is_due p) p.subs) (among-dues p s q reached at has) (before s q at has) (sym next))))

pub least-nowhere : (p : PlainPartition) (last : Option SubName) → IsReached p → ArePast p last → None ≡ next_due p last → None ≡ least sub_lt (keys_where (is_deliverable p) p.subs)
least-nowhere p last reached before none =
    ap (least sub_lt) (sym (keys_where-empty (is_deliverable p) p.subs
    (each-entry same_sub sub_equality (λ (s : SubName) (r : Subscription). is_deliverable p r ≡ false) p.subs (unique-of p reached)
    (λ s r at. false_from_ne_true (is_deliverable p r) (λ has. both_ways (is_above sub_lt last s) (none-past sub_lt same_sub sub_order sub_equality last s (keys_where (is_due p) p.subs) (among-dues p s r reached at has) (sym none)) (before s r at has))))))

-- ---- an open subscription that isn't due is settled

not-due : (p : PlainPartition) (r : Subscription) → r.is_open ≡ true → is_due p r ≡ false → (is_unacknowledged r ≡ false) × (p.high ≤ r.resume)
not-due p r is_open undue =
    let tests = or_parts (is_unacknowledged r) (nat_lt r.resume p.high) (ap (λ b. b && (is_unacknowledged r || nat_lt r.resume p.high)) (sym is_open) ∙ undue) in
    (tests.0, ltb-false r.resume p.high tests.1)

pub settled-undue : (p : PlainPartition) (s : SubName) (r : Subscription) → IsReached p → sub_at p s ≡ Some r → r.is_open ≡ true → is_due p r ≡ false → is_settled_in p.high (sub_at p s) ≡ true
settled-undue p s r reached found is_open undue =
    let history = history-of p reached in
    let served = (history.fits.subs s r found).served is_open in
    let facts = not-due p r is_open undue in
    let order = served.resume_cursor in
    let level : r.resume ≡ r.cursor = omega (arith, near-legal reached.blocks reached.limits reached.history p reached.stands s r found is_open, facts.1, order) in
    let seen : p.high ≤ r.cursor = omega (arith, facts.1, order) in
    ap (is_settled_in p.high) found ∙ rw (is_open, le-leb p.high r.cursor seen, eq-eqb r.resume r.cursor level, facts.0) refl

abbrev Settled : PlainPartition → SubName → Type 0
Settled p s = is_settled_in p.high (sub_at p s) ≡ true

-- what isn't among those that are due
settled-outside : (p : PlainPartition) (s : SubName) → IsReached p → IsOpenAt p s → (list_any (same_sub s) (keys_where (is_due p) p.subs) ≡ true → false ≡ true) → Settled p s
settled-outside p s reached opened outside =
    settled-undue p s opened.record_of reached opened.found opened.is_open
    (false_from_ne_true (is_due p opened.record_of) (λ due. let wrong = outside (any-keys_where same_sub (is_due p) s opened.record_of p.subs opened.found due) in absurd (cc)))

-- ---- to serve the settled ones changes nothing

pub ends-behind-settled : (p new : PlainPartition) (end : Option (Option draining.Stop)) (front rest : List SubName) → IsReached p → AllByRecursion (Settled p) front → Ends p new end (serve_each rest p) → Ends p new end (serve_each (front ++ rest) p)
unfolding serve_each
ends-behind-settled p new end [] rest reached settled ends = ends
ends-behind-settled p new end (s ∷ front) rest reached settled ends =
    ends-then p p new end (serve s p (sub_at p s)) (serve_each (front ++ rest)) (serves-settled p s reached settled.0) (ends-behind-settled p new end front rest reached settled.1 ends)

-- ---- the loop

-- the names of the open subscriptions are as they were, and once those past the last one are served, all are
pub record GoesOn (start here : PlainPartition) (last : Option SubName) : Type 0 where
  pub names : open_names here ≡ open_names start
  pub rest : Suffices start here (serve_each (above sub_lt last (open_names start)) here) (serve_each (open_names start) start)

pub goes-on-first : (p : PlainPartition) → GoesOn p p None
goes-on-first p = record { names = refl; rest = λ new end ends. ends }

-- the names past the last one: settled ones, then the next that is due, then those past it
record IsNext (p : PlainPartition) (names : List SubName) (last : Option SubName) (d : SubName) : Type 0 where
  pub front : List SubName
  pub settled : AllByRecursion (Settled p) front
  pub is : front ++ d ∷ above sub_lt (Some d) names ≡ above sub_lt last names

next-of : (p : PlainPartition) (last : Option SubName) (d : SubName) → IsReached p → Some d ≡ next_due p last → IsNext p (open_names p) last d
next-of p last d reached next =
    let is = sym next in
    let past = least-past sub_lt same_sub sub_order sub_equality last d (keys_where (is_due p) p.subs) is in
    let split : IsSplit sub_lt same_sub sub_order sub_equality (IsOpenAt p) (is_above sub_lt last) d (open_names p) =
    split-at sub_lt same_sub sub_order sub_equality (IsOpenAt p) (is_above sub_lt last) (onward last) d past.0 (open_names p) (open-names p (unique-of p reached)) (rising-names p reached) (due-among-open p d reached past.1) in
    record {
      front = split.front;
      settled = All-weaken (λ (s : SubName). IsOpenAt p s × ((is_above sub_lt last s ≡ true) × (sub_lt s d ≡ true))) (Settled p)
          (λ s facts. settled-outside p s reached facts.0
          (λ due. let no : sub_lt s d ≡ false = not-passed sub_lt same_sub sub_order sub_equality last s d (keys_where (is_due p) p.subs) due facts.1.0 is in sym no ∙ facts.1.1)) split.front split.each;
      is = split.is ∙ sym (above-filter sub_lt last (open_names p));
    }
  where
    onward : (last : Option SubName) (x y : SubName) → sub_lt x y ≡ true → is_above sub_lt last x ≡ true → is_above sub_lt last y ≡ true
    onward None x y less past = refl
    onward (Some a) x y less past = sub_order.chain a x y past less

-- what serves those from the next on that is due makes the whole
from-next : (start here new : PlainPartition) (end : Option (Option draining.Stop)) (last : Option SubName) (d : SubName) → IsReached here → GoesOn start here last → Some d ≡ next_due here last
    → Ends here new end (serve_each (d ∷ above sub_lt (Some d) (open_names start)) here) → Ends start new end (serve_each (open_names start) start)
from-next start here new end last d reached before next ends =
    let at = subst (λ (names : List SubName). IsNext here names last d) before.names (next-of here last d reached next) in
    before.rest new end
    (subst (λ (names : List SubName). Ends here new end (serve_each names here)) at.is
    (ends-behind-settled here new end at.front (d ∷ above sub_lt (Some d) (open_names start)) reached at.settled ends))

-- one more is served
pub goes-on : (start here mid : PlainPartition) (last : Option SubName) (d : SubName) → IsReached here → GoesOn start here last → Some d ≡ next_due here last → Ends here mid (Some None) (serve d here (sub_at here d)) → GoesOn start mid (Some d)
unfolding serve_each
goes-on start here mid last d reached before next served =
    record {
      names = served-keeps here mid d served ∙ before.names;
      rest = λ new end ends. from-next start here new end last d reached before next
          (ends-then here mid new end (serve d here (sub_at here d)) (serve_each (above sub_lt (Some d) (open_names start))) served ends);
    }

-- one is not served in full
pub goes-on-halted : (start here new : PlainPartition) (last : Option SubName) (d : SubName) (why : Stop) → IsReached here → GoesOn start here last → Some d ≡ next_due here last → Ends here new (halted why) (serve d here (sub_at here d)) → Ends start new (halted why) (serve_each (open_names start) start)
unfolding serve_each
goes-on-halted start here new last d why reached before next stopped =
    from-next start here new (halted why) last d reached before next
    (ends-halted here new why (serve d here (sub_at here d)) (serve_each (above sub_lt (Some d) (open_names start))) stopped)

-- no further one is due
pub goes-on-done : (start here : PlainPartition) (last : Option SubName) → IsReached here → GoesOn start here last → None ≡ next_due here last → Ends start here (Some None) (serve_each (open_names start) start)
unfolding serve_each
goes-on-done start here last reached before none =
    before.rest here (Some None) (subst (λ (names : List SubName). Ends here here (Some None) (serve_each names here)) (append-nil (above sub_lt last (open_names start)))
    (ends-behind-settled here here (Some None) (above sub_lt last (open_names start)) [] reached
    (subst (AllByRecursion (Settled here)) (sym (above-filter sub_lt last (open_names start)))
    (each (open_names start) (subst (AllByRecursion (IsOpenAt here)) before.names (open-names here (unique-of here reached))))) (refl, refl, refl)))
  where
    each : (names : List SubName) → AllByRecursion (IsOpenAt here) names → AllByRecursion (Settled here) (filter (is_above sub_lt last) names)
    each [] opened = tt
    each (s ∷ names) opened =
        let rest = each names opened.1 in
        cond_both (is_above sub_lt last s) (s ∷ filter (is_above sub_lt last) names) (filter (is_above sub_lt last) names) (AllByRecursion (Settled here))
        (λ past. (settled-outside here s reached opened.0 (λ due. sym (none-past sub_lt same_sub sub_order sub_equality last s (keys_where (is_due here) here.subs) due (sym none)) ∙ past), rest))
        (λ _. rest)

-- fewer names are past the next that is due
pub fewer-past : (p : PlainPartition) (last : Option SubName) (d : SubName) → IsReached p → Some d ≡ next_due p last → length (above sub_lt (Some d) (open_names p)) < length (above sub_lt last (open_names p))
fewer-past p last d reached next =
    let at = next-of p last d reached next in
    let whole : length (at.front ++ d ∷ above sub_lt (Some d) (open_names p)) ≡ length (above sub_lt last (open_names p)) = ap length at.is in
    omega (arith, whole, length-append at.front (d ∷ above sub_lt (Some d) (open_names p)))

pub fewer-left : (start here : PlainPartition) (last : Option SubName) (d : SubName) → IsReached here → GoesOn start here last → Some d ≡ next_due here last → length (above sub_lt (Some d) (open_names start)) < length (above sub_lt last (open_names start))
fewer-left start here last d reached before next =
    subst (λ (names : List SubName). length (above sub_lt (Some d) names) < length (above sub_lt last names)) before.names (fewer-past here last d reached next)
