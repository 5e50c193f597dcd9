-- Look-ups in lists of keys with their values after a change.
use Rattle.stream_model.proofs.Prelude.{◌≡◌, Bool, false, List, [], ◌∷◌, ◌++◌, Option, Some, None, if◌then◌else◌, refl, ap, subst, inl, inr, cases_Bool, cond_both, value_at, with_value, changed_value, each_value, or_else}
use Rattle.stream_ident.proofs.SameValues.{IsEquality}

-- the value at the key that was set
pub with_value-at : {K V : Type 0} (same : K → K → Bool) → IsEquality same → (k : K) (v : V) (entries : List (K × V)) → value_at same k (with_value same k v entries) ≡ Some v
with_value-at same is k v [] = rw (is.reflexive k) refl
with_value-at same is k v (entry ∷ entries) =
    cond_both (same k entry.0) _ _ (λ now. value_at same k now ≡ Some v) (λ here. rw here refl)
    (λ apart. rw apart (with_value-at same is k v entries))

-- and at another key
pub with_value-other : {K V : Type 0} (same : K → K → Bool) → IsEquality same → (q k : K) (v : V) (entries : List (K × V)) → same q k ≡ false → value_at same q (with_value same k v entries) ≡ value_at same q entries
with_value-other same is q k v [] other = rw other refl
with_value-other {V = V} same is q k v (entry ∷ entries) other =
    cond_both (same k entry.0) _ _ (λ now. value_at same q now ≡ value_at same q (entry ∷ entries))
    (λ here. let away : same q entry.0 ≡ false = subst (λ x. same q x ≡ false) (is.equal k entry.0 here) other in rw away refl)
    (λ _. ap {B = Option V} (λ rest. if same q entry.0 then Some entry.1 else rest) (with_value-other same is q k v entries other))

-- a value that was found, changed
abbrev pub changed_option : {V : Type 0} → (V → V) → Option V → Option V
changed_option change None = None
changed_option change (Some v) = Some (change v)

-- the value at the key that was changed, where there is one
pub changed_value-at : {K V : Type 0} (same : K → K → Bool) (k : K) (change : V → V) (entries : List (K × V)) → value_at same k (changed_value same k change entries) ≡ changed_option change (value_at same k entries)
changed_value-at same k change [] = refl
changed_value-at same k change (entry ∷ entries) =
    cond_both (same k entry.0) _ _ (λ now. value_at same k now ≡ changed_option change (value_at same k (entry ∷ entries))) (λ here. rw here refl)
    (λ apart. rw apart (changed_value-at same k change entries))

-- and at another key
pub changed_value-other : {K V : Type 0} (same : K → K → Bool) → IsEquality same → (q k : K) (change : V → V) (entries : List (K × V)) → same q k ≡ false → value_at same q (changed_value same k change entries) ≡ value_at same q entries
changed_value-other same is q k change [] other = refl
changed_value-other {V = V} same is q k change (entry ∷ entries) other =
    cond_both (same k entry.0) _ _ (λ now. value_at same q now ≡ value_at same q (entry ∷ entries))
    (λ here. let away : same q entry.0 ≡ false = subst (λ x. same q x ≡ false) (is.equal k entry.0 here) other in rw away refl)
    (λ _. ap {B = Option V} (λ rest. if same q entry.0 then Some entry.1 else rest) (changed_value-other same is q k change entries other))

-- each value changed
pub each_value-at : {K V : Type 0} (same : K → K → Bool) (q : K) (change : V → V) (entries : List (K × V)) → value_at same q (each_value change entries) ≡ changed_option change (value_at same q entries)
each_value-at same q change [] = refl
each_value-at same q change (entry ∷ entries) =
    elim (cases_Bool (same q entry.0)) [ inl here ↦ rw here refl | inr apart ↦ rw apart (each_value-at same q change entries) ]

-- entries at the end
pub append-at : {K V : Type 0} (same : K → K → Bool) (q : K) (entries more : List (K × V)) → value_at same q (entries ++ more) ≡ or_else (value_at same q entries) (value_at same q more)
append-at same q [] more = refl
append-at same q (entry ∷ entries) more =
    elim (cases_Bool (same q entry.0)) [ inl here ↦ rw here refl | inr apart ↦ rw apart (append-at same q entries more) ]
