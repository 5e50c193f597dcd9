-- Records by number: look-ups and changes.
use Rattle.step_core.proofs.Prelude.{SubState, Registration, ◌≡◌, ℕ, zero, suc, ◌<◌, Bool, List, [], ◌∷◌, ◌++◌, length, get_or, map, set, refl, sym, ap, ◌∙◌, arith, first_at, each_value, SubName, Subscription}
use Rattle.stream_model.specs.Places.{change_at}
use Rattle.step_core.specs.View.{sub_of, subs_of}

-- a name has the same place among the names and among the records
pub place_of_record : (passes : SubName → Bool) (n : ℕ) (names : List (SubName × Registration)) (states : List SubState) → length names ≡ length states → first_at (λ entry. passes entry.0) n (subs_of names states) ≡ first_at (λ entry. passes entry.0) n names
place_of_record passes n [] states e = refl
place_of_record passes n (entry ∷ entries) [] e = absurd (omega (arith, e))
place_of_record passes n (entry ∷ entries) (state ∷ states) e =
    rw (place_of_record passes (suc n) entries states (omega (arith, e))) refl

pub records-length : (names : List (SubName × Registration)) (states : List SubState) → length names ≡ length states → length (subs_of names states) ≡ length names
records-length [] states e = refl
records-length (entry ∷ entries) [] e = absurd (omega (arith, e))
records-length (entry ∷ entries) (state ∷ states) e = ap suc (records-length entries states (omega (arith, e)))

-- the record with a number
pub record-at : (names : List (SubName × Registration)) (states : List SubState) (i : ℕ) (d : SubName × Subscription) (entry : SubName × Registration) (state : SubState) → length names ≡ length states → i < length names → get_or (subs_of names states) i d ≡ sub_of (get_or names i entry) (get_or states i state)
record-at [] states i d entry state e within = absurd (omega (arith, within))
record-at (name ∷ names) [] i d entry state e within = absurd (omega (arith, e))
record-at (name ∷ names) (first ∷ states) zero d entry state e within = refl
record-at (name ∷ names) (first ∷ states) (suc i) d entry state e within = record-at names states i d entry state (omega (arith, e)) (omega (arith, within))

-- its state changed
pub record-changed : (change : Subscription → Subscription) (names : List (SubName × Registration)) (states : List SubState) (i : ℕ) (d : SubName × Registration) (old new : SubState) → length names ≡ length states → i < length names → (sub_of (get_or names i d) new).1 ≡ change (sub_of (get_or names i d) (get_or states i old)).1 → change_at change i (subs_of names states) ≡ subs_of names (set states i new)
record-changed change [] states i d old new e within changed = absurd (omega (arith, within))
record-changed change (name ∷ names) [] i d old new e within changed = absurd (omega (arith, e))
record-changed change (name ∷ names) (first ∷ states) zero d old new e within changed =
    ap (λ r. (name.0, r) ∷ subs_of names states) (sym changed)
record-changed change (name ∷ names) (first ∷ states) (suc i) d old new e within changed =
    ap (λ rest. sub_of name first ∷ rest) (record-changed change names states i d old new (omega (arith, e)) (omega (arith, within)) changed)

-- each state changed
pub each-record : (change : Subscription → Subscription) (step : SubState → SubState) (names : List (SubName × Registration)) (states : List SubState) → ((entry : SubName × Registration) (state : SubState) → (sub_of entry (step state)).1 ≡ change (sub_of entry state).1) → each_value change (subs_of names states) ≡ subs_of names (map step states)
each-record change step [] states changed = refl
each-record change step (entry ∷ entries) [] changed = refl
each-record change step (entry ∷ entries) (state ∷ states) changed =
    ap (λ r. (entry.0, r) ∷ each_value change (subs_of entries states)) (sym (changed entry state))
    ∙ ap (λ rest. sub_of entry (step state) ∷ rest) (each-record change step entries states changed)

-- one more record
pub record-added : (names : List (SubName × Registration)) (states : List SubState) (entry : SubName × Registration) (state : SubState) → length names ≡ length states → subs_of (names ++ entry ∷ []) (states ++ state ∷ []) ≡ subs_of names states ++ sub_of entry state ∷ []
record-added [] [] entry state e = refl
record-added [] (first ∷ states) entry state e = absurd (omega (arith, e))
record-added (name ∷ names) [] entry state e = absurd (omega (arith, e))
record-added (name ∷ names) (first ∷ states) entry state e =
    ap (λ rest. sub_of name first ∷ rest) (record-added names states entry state (omega (arith, e)))

-- states that agree number by number with a change of each record
pub records-changed : (change : Subscription → Subscription) (names : List (SubName × Registration)) (states new : List SubState) → length names ≡ length states → length new ≡ length states
    → ((i : ℕ) (d : SubName × Registration) (e : SubState) → i < length names → (sub_of (get_or names i d) (get_or new i e)).1 ≡ change (sub_of (get_or names i d) (get_or states i e)).1)
    → each_value change (subs_of names states) ≡ subs_of names new
records-changed change [] states new lengths as_long each = refl
records-changed change (name ∷ names) [] new lengths as_long each = absurd (omega (arith, lengths))
records-changed change (name ∷ names) (state ∷ states) [] lengths as_long each = absurd (omega (arith, as_long))
records-changed change (name ∷ names) (state ∷ states) (first ∷ new) lengths as_long each =
    ap (λ r. (name.0, r) ∷ each_value change (subs_of names states)) (sym (each zero name state (omega arith)))
    ∙ ap (λ rest. sub_of name first ∷ rest) (records-changed change names states new (omega (arith, lengths)) (omega (arith, as_long)) (λ i d e within. each (suc i) d e (omega (arith, within))))
