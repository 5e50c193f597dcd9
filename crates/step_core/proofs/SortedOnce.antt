-- What a stable sort gives is one list: the elements from the least to the greatest, with ties as they were.
use Rattle.step_core.proofs.Prelude.{◌≡◌, ◌<◌, ◌≤◌, ℕ, suc, Bool, true, false, ◌==◌, ◌&&◌, not, cond, List, [], ◌∷◌, length, get_or, filter, refl, sym, ap, subst, ◌∙◌, arith, and_parts, cond_both, eqb-false, eqb-true, false_from_ne_true, not-true, IsStrictWeakOrder, AllByRecursion, ⊤, All-filter, All-weaken, in_order, insert_in_order}
use Rattle.std.specs.List.Sorted.{ties, IsStableBy}
use Rattle.stream_laws.proofs.KeyLists.{All-insert}

-- the first of what passes is the first element, where that passes
first_is : {X : Type 0} (t : X → Bool) (x y : X) (xs ys : List X) → t y ≡ true → x ∷ xs ≡ filter t (y ∷ ys) → x ≡ y
first_is t x y xs ys passes same = let kept : filter t (y ∷ ys) ≡ y ∷ filter t ys = rw passes refl in cc

-- behind the same first element the same passes
rest_same : {X : Type 0} (b : Bool) (x y : X) (xs ys : List X) → cond b (x ∷ xs) xs ≡ cond b (y ∷ ys) ys → xs ≡ ys
rest_same true x y xs ys same = cc
rest_same false x y xs ys same = same

-- two neighbours of which at most one passes can change places
flip_kept : {X : Type 0} (a b : Bool) (x y : X) (xs : List X) → a && b ≡ false
    → cond b (y ∷ cond a (x ∷ xs) xs) (cond a (x ∷ xs) xs) ≡ cond a (x ∷ cond b (y ∷ xs) xs) (cond b (y ∷ xs) xs)
flip_kept true true x y xs one = absurd (cc)
flip_kept true false x y xs one = refl
flip_kept false b x y xs one = refl

module _ {X : Type 0} (lt : X → X → Bool) (o : IsStrictWeakOrder lt) where
  abbrev NoneBelow : X → List X → Type 0
  NoneBelow x xs = AllByRecursion (λ (y : X). lt y x ≡ false) xs

  -- no element is less than one before it
  abbrev Rises : List X → Type 0
  Rises [] = ⊤
  Rises (x ∷ xs) = NoneBelow x xs × Rises xs

  NoneBelow-from : (x : X) (xs : List X) → ((k : ℕ) → k < length xs → lt (get_or xs k x) x ≡ false) → NoneBelow x xs
  NoneBelow-from x [] each = tt
  NoneBelow-from x (y ∷ ys) each = (each 0 (omega arith), NoneBelow-from x ys (λ k inside. each (suc k) (omega arith)))

  Rises-from : (xs : List X) → ((i j : ℕ) (d : X) → i ≤ j → j < length xs → lt (get_or xs j d) (get_or xs i d) ≡ false) → Rises xs
  Rises-from [] each = tt
  Rises-from (x ∷ xs) each = (
    NoneBelow-from x xs (λ k inside. each 0 (suc k) x (omega arith) (omega arith)),
    Rises-from xs (λ i j d up inside. each (suc i) (suc j) d (omega arith) (omega arith)),
  )

  not_below_itself : (x : X) → lt x x ≡ false
  not_below_itself x = false_from_ne_true (lt x x) (λ below. let not_below = o.one_way x x below in absurd (cc))

  ties_itself : (x : X) → ties lt x x ≡ true
  ties_itself x = rw (not_below_itself x) refl

  -- what is first of those that tie with it isn't below the first of all
  not_below_first : (x y : X) (xs ys : List X) → Rises (y ∷ ys) → x ∷ xs ≡ filter (ties lt x) (y ∷ ys) → lt x y ≡ false
  not_below_first x y xs ys up same =
      let all : NoneBelow y (filter (ties lt x) (y ∷ ys)) = All-filter (λ (z : X). lt z y ≡ false) (ties lt x) (y ∷ ys) (not_below_itself y, up.0) in
      let here : NoneBelow y (x ∷ xs) = subst (NoneBelow y) (sym same) all in
      here.0

  ties_first : (x : X) (xs : List X) → filter (ties lt x) (x ∷ xs) ≡ x ∷ filter (ties lt x) xs
  ties_first x xs = rw (ties_itself x) refl

  -- two lists that rise are equal where the same elements tie with each, in one order
  rises_once : (xs ys : List X) → Rises xs → Rises ys → IsStableBy lt xs ys → ys ≡ xs
  rises_once [] [] up up' same = refl
  rises_once [] (y ∷ ys) up up' same = let none : y ∷ filter (ties lt y) ys ≡ [] = sym (ties_first y ys) ∙ same y in absurd (cc)
  rises_once (x ∷ xs) [] up up' same = let none : [] ≡ x ∷ filter (ties lt x) xs = same x ∙ ties_first x xs in absurd (cc)
  rises_once (x ∷ xs) (y ∷ ys) up up' same =
      let at_x : x ∷ filter (ties lt x) xs ≡ filter (ties lt x) (y ∷ ys) = sym (ties_first x xs) ∙ sym (same x) in
      let at_y : y ∷ filter (ties lt y) ys ≡ filter (ties lt y) (x ∷ xs) = sym (ties_first y ys) ∙ same y in
      let level : ties lt x y ≡ true = rw (not_below_first x y (filter (ties lt x) xs) ys up' at_x, not_below_first y x (filter (ties lt y) ys) xs up at_y) refl in
      let first : x ≡ y = first_is (ties lt x) x y (filter (ties lt x) xs) ys level at_x in
      let behind : IsStableBy lt xs ys = λ z. rest_same (ties lt z y) y x (filter (ties lt z) ys) (filter (ties lt z) xs)
      (same z ∙ ap (λ (w : X). cond (ties lt z w) (x ∷ filter (ties lt z) xs) (filter (ties lt z) xs)) first) in
      let rest : ys ≡ xs = rises_once xs ys up.1 up'.1 behind in
      cc

  Rises-insert : (x : X) (xs : List X) → Rises xs → Rises (insert_in_order lt x xs)
  Rises-insert x [] up = (tt, tt)
  Rises-insert x (y ∷ ys) up =
      cond_both (lt y x) (y ∷ insert_in_order lt x ys) (x ∷ y ∷ ys) Rises
      (λ below. (All-insert (λ (z : X). lt z y ≡ false) lt x ys (o.one_way y x below) up.0, Rises-insert x ys up.1))
      (λ under. ((under, All-weaken (λ (z : X). lt z y ≡ false) (λ (z : X). lt z x ≡ false) (λ z above. o.chain z y x above under) ys up.0), up))

  Rises-in_order : (xs : List X) → Rises (in_order lt xs)
  Rises-in_order [] = tt
  Rises-in_order (x ∷ xs) = Rises-insert x (in_order lt xs) (Rises-in_order xs)

  -- the same first element keeps a stable order stable
  stable_under : (x : X) (xs ys : List X) → IsStableBy lt xs ys → IsStableBy lt (x ∷ xs) (x ∷ ys)
  stable_under x xs ys same z = ap (λ (l : List X). cond (ties lt z x) (x ∷ l) l) (same z)

  -- what ties with one of two elements of which one is less doesn't tie with the other
  pub one_ties : (z x y : X) → lt y x ≡ true → ties lt z x && ties lt z y ≡ false
  one_ties z x y below = false_from_ne_true (ties lt z x && ties lt z y) (λ both.
      let tie = and_parts (ties lt z x) (ties lt z y) both in
      let not_above_y = not-true (lt y z) (and_parts (not (lt z y)) (not (lt y z)) tie.1).1 in
      let not_below_x = not-true (lt z x) (and_parts (not (lt z x)) (not (lt x z)) tie.0).0 in
      let not_below = o.chain y z x not_above_y not_below_x in
      absurd (cc))

  stable_flip : (x y : X) (xs : List X) → lt y x ≡ true → IsStableBy lt (x ∷ y ∷ xs) (y ∷ x ∷ xs)
  stable_flip x y xs below z = flip_kept (ties lt z x) (ties lt z y) x y (filter (ties lt z) xs) (one_ties z x y below)

  stable_insert : (x : X) (xs : List X) → IsStableBy lt (x ∷ xs) (insert_in_order lt x xs)
  stable_insert x [] = λ z. refl
  stable_insert x (y ∷ ys) =
      cond_both (lt y x) (y ∷ insert_in_order lt x ys) (x ∷ y ∷ ys) (IsStableBy lt (x ∷ y ∷ ys))
      (λ below z. stable_under y (x ∷ ys) (insert_in_order lt x ys) (stable_insert x ys) z ∙ stable_flip x y ys below z)
      (λ under z. refl)

  stable_in_order : (xs : List X) → IsStableBy lt xs (in_order lt xs)
  stable_in_order [] z = refl
  stable_in_order (x ∷ xs) z = stable_insert x (in_order lt xs) z ∙ stable_under x xs (in_order lt xs) (stable_in_order xs) z

  -- a list that rises, and whose ties stand as they were, is the list in order
  pub risen-stable : (xs ys : List X) → ((i j : ℕ) (d : X) → i < j → j < length ys → lt (get_or ys j d) (get_or ys i d) ≡ false) → IsStableBy lt xs ys → ys ≡ in_order lt xs
  risen-stable xs ys up same = rises_once (in_order lt xs) ys (Rises-in_order xs) (Rises-from ys at) (λ z. same z ∙ sym (stable_in_order xs z))
    where
      at : (i j : ℕ) (d : X) → i ≤ j → j < length ys → lt (get_or ys j d) (get_or ys i d) ≡ false
      at i j d up-to within = by (i == j) refl
        where
          by : (b : Bool) → (i == j) ≡ b → lt (get_or ys j d) (get_or ys i d) ≡ false
          by true is = let same : i ≡ j = eqb-true i j is in subst (λ n. lt (get_or ys n d) (get_or ys i d) ≡ false) same (not_below_itself (get_or ys i d))
          by false is = up i j d (let other = eqb-false i j is in omega (arith, other)) within

  -- lists in which the same elements tie with each, in one order, are the same in order
  pub in_order-stable : (xs ys : List X) → IsStableBy lt xs ys → in_order lt ys ≡ in_order lt xs
  in_order-stable xs ys same =
      rises_once (in_order lt xs) (in_order lt ys) (Rises-in_order xs) (Rises-in_order ys) (λ z. stable_in_order ys z ∙ same z ∙ sym (stable_in_order xs z))
