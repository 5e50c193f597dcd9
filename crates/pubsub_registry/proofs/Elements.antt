-- The elements of a list with one put in, or with some taken out, and their places with one put behind.
use Rattle.pubsub_registry.proofs.Prelude.{◌≡◌, ◌∙◌, ℕ, zero, suc, ◌+◌, Bool, true, List, [], ◌∷◌, ◌++◌, length, take, drop, filter, insert, map, Some, refl, sym, ap, subst, arith, All, Contains, get_or-map, length-map, take-append-drop, All-append, All-cons, All-contains_itself, All-drop, All-take, All-weaker, Contains-append_cases, Contains-append_left, Contains-append_right, filter-append, none-some, same_Some, drop-read, ◌⊎◌, ⊎_elim, slice_get, inl, inr}
use Rattle.std.proofs.lemmas.List.Elements.{All-contains, All-filter, filter_passes}

module _ {X : Type 0} where
  pub Contains-here : (x : X) (xs : List X) (y : X) → x ≡ y → Contains (x ∷ xs) y
  Contains-here x xs y same = (0, omega arith, same)

  pub All-insert : (P : X → Type 0) (xs : List X) (at : ℕ) (x : X) → All P xs → P x → All P (insert xs at x)
  All-insert P xs at x all here =
      All-append P (take at xs) (x ∷ drop at xs) (All-take P at xs all) (All-cons P x (drop at xs) here (All-drop P at xs all))

  -- what holds of all that a list contains
  pub All-known : (P : X → Type 0) (xs : List X) → ((x : X) → Contains xs x → P x) → All P xs
  All-known P xs each = All-weaker (Contains xs) P each xs (All-contains_itself xs)

  -- one put in
  pub Contains-insert_here : (xs : List X) (at : ℕ) (x : X) → Contains (insert xs at x) x
  Contains-insert_here xs at x = Contains-append_right (take at xs) (x ∷ drop at xs) x (Contains-here x (drop at xs) x refl)

  pub Contains-insert : (xs : List X) (at : ℕ) (x y : X) → Contains xs y → Contains (insert xs at x) y
  Contains-insert xs at x y there =
      ⊎_elim (Contains-append_left (take at xs) (x ∷ drop at xs) y) (λ (behind : Contains (drop at xs) y). Contains-append_right (take at xs) (x ∷ drop at xs) y (Contains-append_right (x ∷ []) (drop at xs) y behind))
      (Contains-append_cases (take at xs) (drop at xs) y (subst (λ l. Contains l y) (sym (take-append-drop at xs)) there))

  pub Contains-insert_cases : (xs : List X) (at : ℕ) (x y : X) → Contains (insert xs at x) y → (x ≡ y) ⊎ Contains xs y
  Contains-insert_cases xs at x y there =
      All-contains (λ z. (x ≡ z) ⊎ Contains xs z) (insert xs at x) y (All-insert (λ z. (x ≡ z) ⊎ Contains xs z) xs at x (All-known (λ z. (x ≡ z) ⊎ Contains xs z) xs (λ z there. inr there)) (inl refl)) there

  -- some taken out
  pub Contains-filter : (test : X → Bool) (xs : List X) (y : X) → Contains xs y → test y ≡ true → Contains (filter test xs) y
  Contains-filter test xs y there passes =
      let behind = drop (there.0 + 1) xs in
      let split : xs ≡ take there.0 xs ++ y ∷ behind = sym (take-append-drop there.0 xs) ∙ ap (λ rest. take there.0 xs ++ rest) (drop-read xs there.0 y there.1 (sym there.2)) in
      subst (λ all. Contains all y) (sym (ap (filter test) split ∙ filter-append test (take there.0 xs) (y ∷ behind)))
      (Contains-append_right (filter test (take there.0 xs)) (filter test (y ∷ behind)) y (rw passes (Contains-here y (filter test behind) y refl)))

  pub Contains-filter_parts : (test : X → Bool) (xs : List X) (y : X) → Contains (filter test xs) y → Contains xs y × (test y ≡ true)
  Contains-filter_parts test xs y there = (
    All-contains (Contains xs) (filter test xs) y (All-filter test (Contains xs) xs (All-contains_itself xs)) there,
    All-contains (λ x. test x ≡ true) (filter test xs) y (filter_passes test xs) there,
  )

  -- one put behind
  pub slice_get-left : (xs : List X) (y : X) (i : ℕ) (x : X) → slice_get xs i ≡ Some x → slice_get (xs ++ y ∷ []) i ≡ Some x
  slice_get-left [] y i x is = absurd (none-some x is)
  slice_get-left (z ∷ xs) y zero x is = is
  slice_get-left (z ∷ xs) y (suc i) x is = slice_get-left xs y i x is

  pub slice_get-last : (xs : List X) (y : X) → slice_get (xs ++ y ∷ []) (length xs) ≡ Some y
  slice_get-last [] y = refl
  slice_get-last (z ∷ xs) y = slice_get-last xs y

  pub slice_get-cases : (xs : List X) (y : X) (i : ℕ) (x : X) → slice_get (xs ++ y ∷ []) i ≡ Some x → (slice_get xs i ≡ Some x) ⊎ ((i ≡ length xs) × (y ≡ x))
  slice_get-cases [] y zero x is = inr (refl, same_Some y x is)
  slice_get-cases [] y (suc i) x is = absurd (none-some x is)
  slice_get-cases (z ∷ xs) y zero x is = inl is
  slice_get-cases (z ∷ xs) y (suc i) x is =
      ⊎_elim (λ (there : slice_get xs i ≡ Some x). inl there) (λ (last : (i ≡ length xs) × (y ≡ x)). inr (ap suc last.0, last.1)) (slice_get-cases xs y i x is)

-- one of the values of a function at each element
pub Contains-map : {X Y : Type 0} (f : X → Y) (xs : List X) (x : X) → Contains xs x → Contains (map f xs) (f x)
Contains-map f xs x there =
    let inside = there.1 in (there.0, omega (arith, inside, length-map xs f), get_or-map f xs there.0 x (f x) there.1 ∙ ap f there.2)
