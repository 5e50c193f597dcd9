-- One record of the parts found by its name, and changed.
use Rattle.step_core.proofs.Prelude.{SubState, Registration, ◌≡◌, ◌∙◌, ap, sym, ℕ, length, get_or, set, Option, Some, None, set-get_or, same_sub, place_of, SubName, place_of-change, place_of-none, place_of-value, place_of-within, sub_at, with_sub, Subscription}
use Rattle.step_core.specs.declared.parts.Parts.{Parts}
use Rattle.step_core.specs.PlainOf.{plain_of}
use Rattle.step_core.specs.View.{sub_of, subs_of}
use Rattle.step_core.proofs.ViewLemmas.{place_of_record, record-at, record-changed}

-- a name without a number has no record
pub no-record : (parts : Parts) (s : SubName) → length parts.subs.registry.names ≡ length parts.subs.states → place_of same_sub s parts.subs.registry.names ≡ None → sub_at (plain_of parts) s ≡ None
no-record parts s lengths none =
    place_of-none same_sub s (subs_of parts.subs.registry.names parts.subs.states) (place_of_record (same_sub s) 0 parts.subs.registry.names parts.subs.states lengths ∙ none)

-- the record with a number
abbrev pub record_at : Parts → ℕ → SubName × Registration → SubState → Subscription
record_at parts i d e = (sub_of (get_or parts.subs.registry.names i d) (get_or parts.subs.states i e)).1

place-within : (parts : Parts) (s : SubName) (i : ℕ) → length parts.subs.registry.names ≡ length parts.subs.states → place_of same_sub s parts.subs.registry.names ≡ Some i → place_of same_sub s (subs_of parts.subs.registry.names parts.subs.states) ≡ Some i
place-within parts s i lengths found = place_of_record (same_sub s) 0 parts.subs.registry.names parts.subs.states lengths ∙ found

pub record-found : (parts : Parts) (s : SubName) (i : ℕ) (d : SubName × Registration) (e : SubState) → length parts.subs.registry.names ≡ length parts.subs.states → place_of same_sub s parts.subs.registry.names ≡ Some i → sub_at (plain_of parts) s ≡ Some (record_at parts i d e)
record-found parts s i d e lengths found =
    let within = place_of-within same_sub s i parts.subs.registry.names found in
    place_of-value same_sub s i (subs_of parts.subs.registry.names parts.subs.states) (sub_of d e) (place-within parts s i lengths found)
    ∙ ap {B = Option Subscription} (λ (r : SubName × Subscription). Some r.1) (record-at parts.subs.registry.names parts.subs.states i (sub_of d e) d e lengths within)

-- its state changed
pub record-set : (parts : Parts) (s : SubName) (i : ℕ) (d : SubName × Registration) (e new : SubState) (change : Subscription → Subscription) → length parts.subs.registry.names ≡ length parts.subs.states → place_of same_sub s parts.subs.registry.names ≡ Some i → (sub_of (get_or parts.subs.registry.names i d) new).1 ≡ change (record_at parts i d e) → with_sub (plain_of parts) s (change (record_at parts i d e)) ≡ plain_of (record parts { subs = record parts.subs { states = set parts.subs.states i new } })
record-set parts s i d e new change lengths found changed =
    let within = place_of-within same_sub s i parts.subs.registry.names found in
    let placed = place-within parts s i lengths found in
    let written = place_of-change same_sub s change (record_at parts i d e) i (subs_of parts.subs.registry.names parts.subs.states) placed (record-found parts s i d e lengths found) in
    let moved = record-changed change parts.subs.registry.names parts.subs.states i d e new lengths within changed in
    ap (λ subs. record (plain_of parts) { subs = subs }) (sym written ∙ moved)

-- a state that stays
pub record-kept : (parts : Parts) (i : ℕ) (e : SubState) → plain_of parts ≡ plain_of (record parts { subs = record parts.subs { states = set parts.subs.states i (get_or parts.subs.states i e) } })
record-kept parts i e = ap (λ states. plain_of (record parts { subs = record parts.subs { states = states } })) (sym (set-get_or parts.subs.states i e))
