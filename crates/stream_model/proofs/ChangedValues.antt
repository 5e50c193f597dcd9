-- Lists of keys with their values in which a value, or each, is changed.
use Rattle.stream_model.proofs.Prelude.{◌≡◌, ℕ, Bool, List, [], ◌∷◌, Option, Some, None, sym, ap, ◌∙◌, arith, cond_both, AllByRecursion, changed_value}
use Rattle.stream_ident.proofs.WordLemmas.{changed_value-none}
use Rattle.stream_model.specs.Places.{change_at, place_of}
use Rattle.stream_model.proofs.Lookups.{at_place, place_of-none}

-- a change at the key's place changes its value
pub place_of-changed : {K V : Type 0} (same : K → K → Bool) (key : K) (change : V → V) (i : ℕ) (entries : List (K × V)) → place_of same key entries ≡ Some i → change_at change i entries ≡ changed_value same key change entries
place_of-changed same key change i [] e = absurd (cc)
place_of-changed same key change i (entry ∷ entries) e =
    (at_place same key change 0 i (entry ∷ entries) entry (e ∙ ap {B = Option ℕ} Some (omega arith))).2

-- and with no place nothing changes
pub place_of-unchanged : {K V : Type 0} (same : K → K → Bool) (key : K) (change : V → V) (entries : List (K × V)) → place_of same key entries ≡ None → entries ≡ changed_value same key change entries
place_of-unchanged same key change entries e = sym (changed_value-none same key change entries (place_of-none same key entries e))

-- a fact of the values that a change keeps holds after it
pub All-changed : {K V : Type 0} (P : V → Type 0) (same : K → K → Bool) (key : K) (change : V → V) → ((v : V) → P v → P (change v)) → (entries : List (K × V))
    → AllByRecursion (λ (entry : K × V). P entry.1) entries → AllByRecursion (λ (entry : K × V). P entry.1) (changed_value same key change entries)
All-changed P same key change keeps [] all = tt
All-changed {K} {V} P same key change keeps (entry ∷ entries) all =
    cond_both (same key entry.0) _ _ (AllByRecursion (λ (entry : K × V). P entry.1))
    (λ _. (keeps entry.1 all.0, all.1))
    (λ _. (all.0, All-changed P same key change keeps entries all.1))
