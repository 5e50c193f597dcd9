-- What holds of each element of a list.
use Rattle.stream_ident.proofs.Prelude.{ℕ, zero, suc, Bool, List, [], ◌∷◌, ◌++◌, drop, filter, cond_both, AllByRecursion, flat_map}

-- a weaker fact
pub All-weaken : {X : Type 0} (P Q : X → Type 0) → ((x : X) → P x → Q x) → (xs : List X) → AllByRecursion P xs → AllByRecursion Q xs
All-weaken P Q weaker [] all = tt
All-weaken P Q weaker (x ∷ xs) all = (weaker x all.0, All-weaken P Q weaker xs all.1)

pub All-append : {X : Type 0} (Q : X → Type 0) (xs ys : List X) → AllByRecursion Q xs → AllByRecursion Q ys → AllByRecursion Q (xs ++ ys)
All-append Q [] ys first second = second
All-append Q (x ∷ xs) ys first second = (first.0, All-append Q xs ys first.1 second)

pub All-push : {X : Type 0} (Q : X → Type 0) (xs : List X) (y : X) → AllByRecursion Q xs → Q y → AllByRecursion Q (xs ++ y ∷ [])
All-push Q xs y first second = All-append Q xs (y ∷ []) first (second, tt)

pub All-flat_map : {X Y : Type 0} (Q : Y → Type 0) (made : X → List Y) → ((x : X) → AllByRecursion Q (made x)) → (xs : List X) → AllByRecursion Q (flat_map made xs)
All-flat_map Q made each [] = tt
All-flat_map Q made each (x ∷ xs) = All-append Q (made x) (flat_map made xs) (each x) (All-flat_map Q made each xs)

pub All-drop : {X : Type 0} (Q : X → Type 0) (n : ℕ) (xs : List X) → AllByRecursion Q xs → AllByRecursion Q (drop n xs)
All-drop Q zero xs all = all
All-drop Q (suc n) [] all = tt
All-drop Q (suc n) (x ∷ xs) all = All-drop Q n xs all.1

pub All-filter : {X : Type 0} (Q : X → Type 0) (passes : X → Bool) (xs : List X) → AllByRecursion Q xs → AllByRecursion Q (filter passes xs)
All-filter Q passes [] all = tt
All-filter Q passes (x ∷ xs) all =
    cond_both (passes x) _ _ (AllByRecursion Q) (λ _. (all.0, All-filter Q passes xs all.1)) (λ _. All-filter Q passes xs all.1)
