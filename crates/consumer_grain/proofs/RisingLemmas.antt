-- Positions that rise.
use Rattle.std.proofs.Common.{◌≡◌, ℕ, suc, ◌<◌, ◌≤◌, true, List, [], ◌∷◌, ◌++◌, length, refl, nat_le, arith}
use Rattle.std.proofs.lemmas.Bool.{and_from, and_parts, le-leb, leb-true}
use Rattle.stream_ident.specs.Words.{past_from}
use Rattle.consumer_grain.specs.Handled.{rises_from}

-- where some are there, it doesn't matter what one past is without them
pub past_from-any : (m n : ℕ) (xs : List ℕ) → 0 < length xs → past_from m xs ≡ past_from n xs
past_from-any m n [] some = absurd (omega arith)
past_from-any m n (x ∷ xs) some = refl

-- positions that go on where others end
pub rises_from-append : (n : ℕ) (first second : List ℕ) → rises_from n first ≡ true → rises_from (past_from n first) second ≡ true → rises_from n (first ++ second) ≡ true
rises_from-append n [] second rises more = more
rises_from-append n (position ∷ first) second rises more =
    let parts = and_parts (nat_le n position) (rises_from (suc position) first) rises in
    and_from (nat_le n position) (rises_from (suc position) (first ++ second)) parts.0 (rises_from-append (suc position) first second parts.1 more)

-- what rises from a number rises from each lesser one
pub rises_from-lower : (m n : ℕ) (xs : List ℕ) → m ≤ n → rises_from n xs ≡ true → rises_from m xs ≡ true
rises_from-lower m n [] le rises = refl
rises_from-lower m n (x ∷ xs) le rises =
    let parts = and_parts (nat_le n x) (rises_from (suc x) xs) rises in
    let above = leb-true n x parts.0 in
    and_from (nat_le m x) (rises_from (suc x) xs) (le-leb m x (omega arith)) parts.1
