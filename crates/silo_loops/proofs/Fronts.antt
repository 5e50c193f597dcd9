-- What holds of each of one list and of the one at its place in another, which has as many or more.
use Rattle.silo_loops.proofs.Prelude.{◌≡◌, ◌<◌, ◌≤◌, List, [], ◌∷◌, ◌++◌, length, get_or, set, arith, AllZip}
use Rattle.silo_loops.specs.Fronts.{AllZipFront}

module _ {A B : Type 0} (R : A → B → Type 0) where
  pub front-push : (xs : List A) (ys : List B) (d : A) (y : B) → length ys < length xs → AllZipFront R xs ys → R (get_or xs (length ys) d) y → AllZipFront R xs (ys ++ y ∷ [])
  front-push [] ys d y less all holds = absurd (omega arith)
  front-push (x ∷ xs) [] d y less all holds = (holds, tt)
  front-push (x ∷ xs) (z ∷ zs) d y less all holds = (all.0, front-push xs zs d y (omega arith) all.1 holds)

  pub front-last : (xs : List A) (ys : List B) (d : A) (y : B) → AllZipFront R xs (ys ++ y ∷ []) → (length ys < length xs) × R (get_or xs (length ys) d) y × AllZipFront R xs ys
  front-last [] [] d y all = absurd all
  front-last [] (z ∷ zs) d y all = absurd all
  front-last (x ∷ xs) [] d y all = (omega arith, all.0, tt)
  front-last (x ∷ xs) (z ∷ zs) d y all =
      let last = front-last xs zs d y all.1 in
      (omega (arith, last.0), last.1, (all.0, last.2))

  -- the one behind them may be another
  pub front-set : (xs : List A) (ys : List B) (x : A) → AllZipFront R xs ys → AllZipFront R (set xs (length ys) x) ys
  front-set xs [] x all = tt
  front-set [] (y ∷ ys) x all = absurd all
  front-set (z ∷ xs) (y ∷ ys) x all = (all.0, front-set xs ys x all.1)

  pub front-fits : (xs : List A) (ys : List B) → AllZipFront R xs ys → length ys ≤ length xs
  front-fits xs [] all = omega arith
  front-fits [] (y ∷ ys) all = absurd all
  front-fits (x ∷ xs) (y ∷ ys) all = let fits = front-fits xs ys all.1 in omega (arith, fits)

  pub front-all : (xs : List A) (ys : List B) → length ys ≡ length xs → AllZipFront R xs ys → AllZip R xs ys
  front-all [] [] same all = tt
  front-all [] (y ∷ ys) same all = absurd all
  front-all (x ∷ xs) [] same all = absurd (omega arith)
  front-all (x ∷ xs) (y ∷ ys) same all = (all.0, front-all xs ys (omega arith) all.1)

pub front-weaker : {A B : Type 0} (R T : A → B → Type 0) → ((x : A) (y : B) → R x y → T x y) → (xs : List A) (ys : List B) → AllZipFront R xs ys → AllZipFront T xs ys
front-weaker R T weak xs [] all = tt
front-weaker R T weak [] (y ∷ ys) all = absurd all
front-weaker R T weak (x ∷ xs) (y ∷ ys) all = (weak x y all.0, front-weaker R T weak xs ys all.1)
