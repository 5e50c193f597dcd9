-- The least key of a list whose value passes, found from the last to the first.
use Rattle.stream_model.proofs.Prelude.{◌≡◌, ◌∙◌, ap, sym, refl, ℕ, ◌+◌, ◌-◌, ◌<◌, ◌≤◌, ◌&&◌, Bool, true, false, List, ◌∷◌, Option, Some, None, length, drop, get_or, if◌then◌else◌, inl, inr, arith, and_parts, cases_Bool, drop_all, drop_more, above, keys_where, lesser, is_above}
use Rattle.stream_model.specs.Least.{least_key}

-- a key is kept where it is above the given one
above-cons : {K : Type 0} (lt : K → K → Bool) (after : Option K) (key : K) (keys : List K) → above lt after (key ∷ keys) ≡ (if is_above lt after key then key ∷ above lt after keys else above lt after keys)
above-cons lt None key keys = refl
above-cons lt (Some a) key keys = refl

-- a key that passes, and one that doesn't
there : {K V : Type 0} (lt : K → K → Bool) (after : Option K) (passes : V → Bool) (entry : K × V) (rest : List (K × V)) → (passes entry.1 && is_above lt after entry.0) ≡ true → least_key lt after passes (entry ∷ rest) ≡ Some (lesser lt entry.0 (least_key lt after passes rest))
there lt after passes entry rest is_there =
    let parts = and_parts (passes entry.1) (is_above lt after entry.0) is_there in
    rw (parts.0, above-cons lt after entry.0 (keys_where passes rest), parts.1) refl

not-there : {K V : Type 0} (lt : K → K → Bool) (after : Option K) (passes : V → Bool) (entry : K × V) (rest : List (K × V)) → (passes entry.1 && is_above lt after entry.0) ≡ false → least_key lt after passes (entry ∷ rest) ≡ least_key lt after passes rest
not-there lt after passes entry rest is_not =
    elim (cases_Bool (passes entry.1)) [
      | inl is ↦ let fails : is_above lt after entry.0 ≡ false = rw is at is_not in rw (is, above-cons lt after entry.0 (keys_where passes rest), fails) refl
      | inr fails ↦ rw fails refl
    ]

-- where none is given each key is above
pub of-all : (passes is : Bool) → passes ≡ is → (passes && true) ≡ is
of-all true is e = e
of-all false is e = e

-- what is left from the item before this place on
split : {K V : Type 0} (entries : List (K × V)) (i : ℕ) (entry : K × V) → 0 < i → i - 1 < length entries → entry ≡ get_or entries (i - 1) entry → drop (i - 1) entries ≡ entry ∷ drop i entries
split entries i entry some within is =
    let next : i - 1 + 1 ≡ i = omega arith in
    drop_more entries (i - 1) entry within ∙ ap (λ first. first ∷ drop (i - 1 + 1) entries) (sym is) ∙ ap (λ n. entry ∷ drop n entries) next

-- past the end there is none
pub least_key-end : {K V : Type 0} (lt : K → K → Bool) (after : Option K) (passes : V → Bool) (entries : List (K × V)) (n : ℕ) → length entries ≤ n → None ≡ least_key lt after passes (drop n entries)
least_key-end lt None passes entries n past = rw (drop_all n entries past) refl
least_key-end lt (Some a) passes entries n past = rw (drop_all n entries past) refl

-- one place down, at such a key
pub least_key-there : {K V : Type 0} (lt : K → K → Bool) (after : Option K) (passes : V → Bool) (entries : List (K × V)) (i : ℕ) (entry : K × V) (found : Option K) → 0 < i → i - 1 < length entries → entry ≡ get_or entries (i - 1) entry → (passes entry.1 && is_above lt after entry.0) ≡ true → found ≡ least_key lt after passes (drop i entries) → Some (lesser lt entry.0 found) ≡ least_key lt after passes (drop (i - 1) entries)
least_key-there {K} {V} lt after passes entries i entry found some within is is_there was =
    ap {B = Option K} (λ name. Some (lesser lt entry.0 name)) was ∙ sym (there lt after passes entry (drop i entries) is_there) ∙ ap (least_key lt after passes) (sym (split entries i entry some within is))

-- one place down, at another
pub least_key-not : {K V : Type 0} (lt : K → K → Bool) (after : Option K) (passes : V → Bool) (entries : List (K × V)) (i : ℕ) (entry : K × V) (found : Option K) → 0 < i → i - 1 < length entries → entry ≡ get_or entries (i - 1) entry → (passes entry.1 && is_above lt after entry.0) ≡ false → found ≡ least_key lt after passes (drop i entries) → found ≡ least_key lt after passes (drop (i - 1) entries)
least_key-not lt after passes entries i entry found some within is is_not was =
    was ∙ sym (not-there lt after passes entry (drop i entries) is_not) ∙ ap (least_key lt after passes) (sym (split entries i entry some within is))
