-- In the lists of subscriptions and of grains no key stands twice.
use Rattle.stream_laws.proofs.Prelude.{◌≡◌, Bool, true, false, List, [], ◌∷◌, ◌++◌, Some, None, if◌then◌else◌, refl, sym, ap, subst, ◌∙◌, cond_both, both_ways, false_from_ne_true, IsEquality, value_at, with_value, changed_value, each_value, append-at, changed_option, each_value-at, with_value-other}

-- no key stands twice
abbrev pub AreUnique : {K V : Type 0} → (K → K → Bool) → List (K × V) → Type 0
AreUnique same [] = Unit {0}
AreUnique same (entry ∷ entries) = (value_at same entry.0 entries ≡ None) × AreUnique same entries

-- a key that isn't the one isn't it the other way round
pub same-swap : {K : Type 0} (same : K → K → Bool) → IsEquality same → (a b : K) → same a b ≡ false → same b a ≡ false
same-swap same is a b other =
    false_from_ne_true (same b a) (λ here. both_ways (same a b) other (subst (λ x. same a x ≡ true) (sym (is.equal b a here)) (is.reflexive a)))

pub unique-with_value : {K V : Type 0} (same : K → K → Bool) → IsEquality same → (k : K) (v : V) (entries : List (K × V)) → AreUnique same entries → AreUnique same (with_value same k v entries)
unique-with_value same is k v [] unique = (refl, tt)
unique-with_value {K} {V} same is k v (entry ∷ entries) unique =
    cond_both (same k entry.0) ((entry.0, v) ∷ entries) (entry ∷ with_value same k v entries) (AreUnique same)
    (λ here. unique)
    (λ there. (with_value-other same is entry.0 k v entries (same-swap same is k entry.0 there) ∙ unique.0, unique-with_value same is k v entries unique.1))

changed-none : {K V : Type 0} (same : K → K → Bool) (q k : K) (change : V → V) (entries : List (K × V)) → value_at same q entries ≡ None → value_at same q (changed_value same k change entries) ≡ None
changed-none same q k change [] none = refl
changed-none {K} {V} same q k change (entry ∷ entries) none =
    (elim (same q entry.0) as (λ b. (if b then Some entry.1 else value_at same q entries) ≡ None → same q entry.0 ≡ b → value_at same q (changed_value same k change (entry ∷ entries)) ≡ None) [
      | true ↦ λ none here. absurd (cc)
      | false ↦ λ none there. cond_both (same k entry.0) ((entry.0, change entry.1) ∷ entries) (entry ∷ changed_value same k change entries) (λ (es : List (K × V)). value_at same q es ≡ None)
          (λ found. rw there none)
          (λ other. rw there (changed-none same q k change entries none))
    ]) none refl

pub unique-changed_value : {K V : Type 0} (same : K → K → Bool) (k : K) (change : V → V) (entries : List (K × V)) → AreUnique same entries → AreUnique same (changed_value same k change entries)
unique-changed_value same k change [] unique = tt
unique-changed_value {K} {V} same k change (entry ∷ entries) unique =
    cond_both (same k entry.0) ((entry.0, change entry.1) ∷ entries) (entry ∷ changed_value same k change entries) (AreUnique same)
    (λ here. unique)
    (λ there. (changed-none same entry.0 k change entries unique.0, unique-changed_value same k change entries unique.1))

pub unique-each_value : {K V : Type 0} (same : K → K → Bool) (change : V → V) (entries : List (K × V)) → AreUnique same entries → AreUnique same (each_value change entries)
unique-each_value same change [] unique = tt
unique-each_value {K} {V} same change (entry ∷ entries) unique =
    (each_value-at same entry.0 change entries ∙ ap (changed_option change) unique.0, unique-each_value same change entries unique.1)

-- a new key at the end
pub unique-push : {K V : Type 0} (same : K → K → Bool) → IsEquality same → (entries : List (K × V)) (last : K × V) → value_at same last.0 entries ≡ None → AreUnique same entries → AreUnique same (entries ++ last ∷ [])
unique-push same is [] last new unique = (refl, tt)
unique-push {K} {V} same is (entry ∷ entries) last new unique =
    (elim (same last.0 entry.0) as (λ b. (if b then Some entry.1 else value_at same last.0 entries) ≡ None → same last.0 entry.0 ≡ b → AreUnique same (entry ∷ entries ++ last ∷ [])) [
      | true ↦ λ new here. absurd (cc)
      | false ↦ λ new there.
          let away = same-swap same is last.0 entry.0 there in
          (append-at same entry.0 entries (last ∷ []) ∙ rw (unique.0, away) refl, unique-push same is entries last new unique.1)
    ]) new refl
