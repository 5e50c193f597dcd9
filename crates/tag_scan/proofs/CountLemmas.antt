-- How many of a list's items pass a test, one stretch after another.
use Rattle.std.proofs.Common.{◌≡◌, ℕ, ◌+◌, ◌-◌, ◌≤◌, Bool, List, count_by, cond, drop, length, take, sym, ap, ◌∙◌, arith}
use Rattle.std.proofs.Math.Seq.{take-add, take-length}
use Rattle.std.proofs.lemmas.List.Sums.{sum_by-append}

pub count_by-take_add : (p : ℕ → Bool) (xs : List ℕ) (i n : ℕ)
    → count_by p (take (i + n) xs) ≡ count_by p (take i xs) + count_by p (take n (drop i xs))
count_by-take_add p xs i n = ap (count_by p) (take-add i n xs) ∙ sum_by-append (λ x. cond (p x) 1 0) (take i xs) (take n (drop i xs))

pub count_by-take_rest : (p : ℕ → Bool) (xs : List ℕ) (i : ℕ) → i ≤ length xs
    → count_by p (take i xs) + count_by p (take (length xs - i) (drop i xs)) ≡ count_by p xs
count_by-take_rest p xs i within =
    let whole : i + (length xs - i) ≡ length xs = omega arith in
    sym (count_by-take_add p xs i (length xs - i)) ∙ ap (λ n. count_by p (take n xs)) whole ∙ ap (count_by p) (take-length xs)
