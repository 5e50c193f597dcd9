-- Publish, Subscribe, Unsubscribe and AddRule keep the limits.
use Rattle.stream_model.proofs.Prelude.{◌≡◌, refl, ◌∙◌, ap, ℕ, suc, ◌+◌, ◌<◌, ◌≤◌, ◌==◌, nat_lt, nat_le, false, List, [], ◌∷◌, ◌++◌, length, length-append, arith, ◌&&◌, not, Option, Some, None, cond_both, ltb-false, leb-false, eqb-false, or_parts, length_push, AllByRecursion, list_any, All-weaken, All-filter, batch_token, events_of, same_name, same_grain, same_sub, token_lt, with_value, changed_value, GrainId, StreamId, SubName, Explicit, Implicit, BATCH_EVENTS, Rule, Token}
use Rattle.stream_model.specs.declared.op.Start.{Start}
use Rattle.stream_model.specs.declared.op.Start.TheVariants.{Latest, At}
use Rattle.stream_model.specs.declared.plain.Subscription.{Subscription}
use Rattle.stream_model.specs.declared.plain.PlainPartition.{PlainPartition}
use Rattle.stream_model.specs.Bounds.{AreIn, IsGiven, IsWithinLimits, running_positions}
use Rattle.stream_model.specs.Positions.{low_token, lower_bound, new_subscription, with_sub, sub_at}
use Rattle.stream_model.specs.Publishing.{publish, subscribe, subscribe_at, add_rule, unsubscribe, unsubscribe_from, unsubscribed, without}
use Rattle.stream_model.specs.declared.plain.Delivery.{Delivery}
use Rattle.stream_model.specs.declared.plain.Grain.{Grain}
use Rattle.stream_ident.proofs.EventLemmas.{length-events_of}
use Rattle.stream_model.proofs.PublishingSteps.{is_bad}
use Rattle.stream_model.proofs.SubNames.{AreGiven-more, with_value-new}
use Rattle.stream_model.proofs.RecordBounds.{KeepsLimits, GrainFits, changed, grains-fit, handled-in, sub-set, All-set}
use Rattle.stream_model.proofs.ChangedValues.{All-changed}

bounds-published : (p : PlainPartition) (stream : StreamId) (payloads : List (List ℕ)) → IsWithinLimits p → is_bad payloads ≡ false → nat_lt p.limits.events (length p.log + length payloads) ≡ false → IsWithinLimits (record p { log = p.log ++ events_of stream p.batches 0 payloads; batches = suc p.batches })
bounds-published p stream payloads within good fits =
    let log = p.log ++ events_of stream p.batches 0 payloads in
    let size : length log ≡ length p.log + length payloads = length-append p.log _ ∙ ap (λ n. length p.log + n) (length-events_of stream p.batches 0 payloads) in
    let room = ltb-false p.limits.events (length p.log + length payloads) fits in
    let some = eqb-false (length payloads) 0 (or_parts (length payloads == 0) (nat_lt BATCH_EVENTS (length payloads)) good).0 in
    let longer : (n : ℕ) → n < length p.log → n < length log = λ n here. omega arith in
    let all : (positions : List ℕ) → AreIn p.log positions → AreIn log positions = λ positions. All-weaken _ _ longer positions in
    let events : length log ≤ p.limits.events = omega arith in
    let batches : suc p.batches ≤ length log = omega (arith, some, within.batches) in
    let handled = All-weaken _ (λ (entry : SubName × Subscription). AreIn log entry.1.handled) (λ (entry : SubName × Subscription). all entry.1.handled) p.subs within.handled in
    let waiting = All-weaken _ (λ (entry : GrainId × Grain). AllByRecursion (λ (d : Delivery). d.position < length log) entry.1.mailbox) (λ (entry : GrainId × Grain). All-weaken _ _ (λ (d : Delivery). longer d.position) entry.1.mailbox) p.grains within.waiting in
    let running = All-weaken _ (λ (entry : GrainId × Grain). AreIn log (running_positions entry.1.running)) (λ (entry : GrainId × Grain). all (running_positions entry.1.running)) p.grains within.running in
    assumption

pub bounds-publish : (p : PlainPartition) (stream : StreamId) (payloads : List (List ℕ)) → IsWithinLimits p → IsWithinLimits (publish p stream payloads).0
unfolding publish
bounds-publish p stream payloads within =
    cond_both (is_bad payloads) _ _ KeepsLimits (λ _. within) (λ good. cond_both (nat_lt p.limits.events (length p.log + length payloads)) _ _ KeepsLimits (λ _. within) (bounds-published p stream payloads within good))

bounds-subscribed : (p : PlainPartition) (sub : Subscription) → IsWithinLimits p → AreIn p.log sub.handled → nat_le p.limits.subs (length p.subs) ≡ false → IsWithinLimits (record (with_sub p (Explicit (suc p.explicit)) sub) { explicit = suc p.explicit })
bounds-subscribed p sub within are_in fits =
    let room = leb-false p.limits.subs (length p.subs) fits in
    let s = Explicit (suc p.explicit) in
    let subs = with_value same_sub s sub p.subs in
    let size : length subs ≡ length p.subs + 1 = ap length (with_value-new p.explicit sub p.subs within.names) ∙ length_push p.subs (s, sub) in
    let fewer : length subs ≤ p.limits.subs = omega arith in
    let numbered : suc p.explicit ≤ length subs = omega (arith, within.explicit) in
    let names = All-set (λ (entry : SubName × Subscription). IsGiven (suc p.explicit) entry.0) same_sub s sub p.subs (λ entry given. given) (λ _. omega arith) (AreGiven-more p.explicit p.subs within.names) in
    let handled = All-set (λ (entry : SubName × Subscription). AreIn p.log entry.1.handled) same_sub s sub p.subs (λ _ _. are_in) (λ _. are_in) within.handled in
    assumption

bounds-subscribe_at : (p : PlainPartition) (stream : StreamId) (grain : GrainId) (start : Token) (position : ℕ) → IsWithinLimits p → IsWithinLimits (subscribe_at p stream grain start position).0
unfolding subscribe_at
bounds-subscribe_at p stream grain start position within =
    cond_both (nat_le p.limits.subs (length p.subs)) _ _ KeepsLimits (λ _. within) (bounds-subscribed p (new_subscription stream grain start position) within tt)

pub bounds-subscribe : (p : PlainPartition) (stream : StreamId) (grain : GrainId) (start : Start) → IsWithinLimits p → IsWithinLimits (subscribe p stream grain start).0
unfolding subscribe
bounds-subscribe p stream grain Latest within = bounds-subscribe_at p stream grain (batch_token p.batches) p.high within
bounds-subscribe p stream grain (At token) within =
    cond_both (token_lt token (low_token p)) _ _ KeepsLimits (λ _. within) (λ _. bounds-subscribe_at p stream grain token (lower_bound p token) within)

bounds-unsubscribed : (p : PlainPartition) (s : SubName) (r : Subscription) → IsWithinLimits p → sub_at p s ≡ Some r → IsWithinLimits (unsubscribed p s r)
bounds-unsubscribed p s r within there =
    let closed : Subscription = record r { is_open = false } in
    let after : IsWithinLimits (with_sub p s closed) = sub-set p s r closed within there (handled-in p s r within there) in
    let q = with_sub p s closed in
    changed q q.subs (changed_value same_grain r.grain (without s) p.grains) p.rises p.turns after refl after.names after.handled (omega arith) within.rises within.turns
    (All-changed (GrainFits p.log p.rises) same_grain r.grain (without s)
    (λ st fits. (fits.0, All-filter (λ (d : Delivery). d.position < length p.log) (λ d. not (same_sub s d.sub)) st.mailbox fits.1, fits.2))
    p.grains (grains-fit p within))

bounds-unsubscribe_from : (p : PlainPartition) (s : SubName) (found : Option Subscription) → IsWithinLimits p → sub_at p s ≡ found → IsWithinLimits (unsubscribe_from p s found).0
unfolding unsubscribe_from
bounds-unsubscribe_from p (Explicit n) None within is_found = within
bounds-unsubscribe_from p (Implicit kind stream) None within is_found = within
bounds-unsubscribe_from p (Implicit kind stream) (Some r) within is_found = within
bounds-unsubscribe_from p (Explicit n) (Some r) within is_found =
    cond_both (not r.is_open) _ _ KeepsLimits (λ _. within) (λ _. bounds-unsubscribed p (Explicit n) r within is_found)

pub bounds-unsubscribe : (p : PlainPartition) (s : SubName) → IsWithinLimits p → IsWithinLimits (unsubscribe p s).0
unfolding unsubscribe
bounds-unsubscribe p s within = bounds-unsubscribe_from p s (sub_at p s) within refl

bounds-rule_added : (p : PlainPartition) (rule : Rule) → IsWithinLimits p → nat_le p.limits.rules (length p.rules) ≡ false → IsWithinLimits (record p { rules = p.rules ++ rule ∷ [] })
bounds-rule_added p rule within fits =
    let room = leb-false p.limits.rules (length p.rules) fits in
    let rules : length (p.rules ++ rule ∷ []) ≤ p.limits.rules = omega (arith, length_push p.rules rule) in
    assumption

pub bounds-add_rule : (p : PlainPartition) (kind namespace : List ℕ) → IsWithinLimits p → IsWithinLimits (add_rule p kind namespace).0
unfolding add_rule
bounds-add_rule p kind namespace within =
    cond_both (list_any (λ (rule : Rule). same_name kind rule.kind && same_name namespace rule.namespace) p.rules) _ _ KeepsLimits (λ _. within)
    (λ _. cond_both (nat_le p.limits.rules (length p.rules)) _ _ KeepsLimits (λ _. within)
    (bounds-rule_added p (record { kind = kind; namespace = namespace; from = p.batches }) within))
