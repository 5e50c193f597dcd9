-- The least resume of open subscriptions, found from the first to the last.
use Rattle.partition_reference.proofs.Prelude.{◌≡◌, ◌∙◌, ap, sym, refl, ℕ, min, true, false, List, [], ◌∷◌, Option, Some, None, unwrap_or, ◌+◌, ◌<◌, length, drop, get_or, arith, at_drop_more, least_with, SubName, least_or, resumes_of, Subscription}

-- the least of the rest, where this is the least of those before
abbrev pub least_after : ℕ → Option ℕ → List ℕ → ℕ
least_after high None rest = least_or high rest
least_after high (Some least) rest = least_with least rest

least_with-min : (x m : ℕ) (rest : List ℕ) → least_with (min x m) rest ≡ min x (least_with m rest)
least_with-min x m [] = refl
least_with-min x m (y ∷ rest) = let h = least_with-min x m rest in omega arith

after-some : (high x : ℕ) (least : Option ℕ) (rest : List ℕ) → least_after high least (x ∷ rest) ≡ least_after high (Some (min x (unwrap_or least x))) rest
after-some high x None rest = let same : min x x ≡ x = omega arith in ap (λ n. least_with n rest) (sym same)
after-some high x (Some m) rest = sym (least_with-min x m rest)

-- one open subscription more
pub after-open : (high : ℕ) (least : Option ℕ) (name : SubName) (sub : Subscription) (rest : List (SubName × Subscription)) → sub.is_open ≡ true → least_after high least (resumes_of ((name, sub) ∷ rest)) ≡ least_after high (Some (min sub.resume (unwrap_or least sub.resume))) (resumes_of rest)
after-open high least name sub rest is_open = rw is_open (after-some high sub.resume least (resumes_of rest))

-- one closed subscription more
pub after-closed : (high : ℕ) (least : Option ℕ) (name : SubName) (sub : Subscription) (rest : List (SubName × Subscription)) → sub.is_open ≡ false → least_after high least (resumes_of ((name, sub) ∷ rest)) ≡ least_after high least (resumes_of rest)
after-closed high least name sub rest is_closed = rw is_closed refl

-- none more
pub after-all : (high : ℕ) (least : Option ℕ) → least_after high least [] ≡ unwrap_or least high
after-all high None = refl
after-all high (Some m) = refl

-- where the item of this turn stands among those that are left
pub after-item : (high : ℕ) (least : Option ℕ) (items : List (SubName × Subscription)) (i : ℕ) (item : SubName × Subscription) → i < length items → item ≡ get_or items i item → least_after high least (resumes_of (drop i items)) ≡ least_after high least (resumes_of (item ∷ drop (i + 1) items))
after-item high least items i item within is =
    at_drop_more (λ rest. least_after high least (resumes_of rest)) items i item within ∙ ap (λ first. least_after high least (resumes_of (first ∷ drop (i + 1) items))) (sym is)
