use Rattle.cache_cursor.proofs.Prelude.{◌≡◌, ℕ, ◌+◌, ◌-◌, ◌/◌, ◌%◌, ◌^◌, ◌<◌, ◌≤◌, ⊎_elim, sym, ap, ◌∙◌, arith, shr-shr, w64}
use Rattle.std.specs.Int.{bit_at, trailing_zeros}
use Rattle.std.proofs.lemmas.Nat.{shr_le}
use Rattle.std.proofs.lemmas.Nat.Bits.{bit_at-zero, bit_at_above, bit_at-trailing_zeros}
use Rattle.std.proofs.lemmas.Bool.{cases_lt}
use Rattle.cache_cursor.specs.Seek.{IsNextMark}
use Rattle.cache_cursor.proofs.cursor.next_mark.Goals as goal

-- a bit of a number that is shifted
bit_at-shr : (marks from place : ℕ) → from ≤ place → bit_at marks place ≡ bit_at (marks / 2 ^ from) (place - from)
bit_at-shr marks from place reached =
    let there : from + (place - from) ≡ place = omega arith in
    ap (bit_at marks) (sym there) ∙ sym (ap (λ n. n % 2) (shr-shr marks from (place - from)))

next_mark : (marks from : ℕ) → marks < 2 ^ 64 → 0 < marks / 2 ^ from → IsNextMark marks from (from + trailing_zeros w64 (marks / 2 ^ from))
next_mark marks from small some =
    let rest = marks / 2 ^ from in
    let lowest = bit_at-trailing_zeros w64 rest some (omega (arith, shr_le marks from)) in
    let place = from + trailing_zeros w64 rest in
    let back : place - from ≡ trailing_zeros w64 rest = omega arith in
    let set : bit_at marks place ≡ 1 = bit_at-shr marks from place (omega arith) ∙ ap (bit_at rest) back ∙ lowest.1 in
    let within : place < 64 = ⊎_elim (λ low. low) (λ high. absurd (omega (arith, set, bit_at_above marks 64 place small high))) (cases_lt place 64) in
    record {
      reached = omega arith;
      within = within;
      found = set;
      before = λ other reached before set. omega (arith, set, bit_at-shr marks from other reached, lowest.2 (other - from) (omega arith));
    }

pub returns-then-rest-eq0-clause-none : goal.returns-then-rest-eq0-clause-none
returns-then-rest-eq0-clause-none c place reached within set =
    let none : bit_at (c.args.marks / 2 ^ c.args.from) (place - c.args.from) ≡ 0 =
    ap (λ rest. bit_at rest (place - c.args.from)) c.if-rest-eq0.true ∙ bit_at-zero (place - c.args.from) in
    omega (arith, set, none, bit_at-shr c.args.marks c.args.from place reached)

pub returns-clause-found : goal.returns-clause-found
returns-clause-found c = next_mark c.args.marks c.args.from (omega arith) (omega (arith, c.if-rest-eq0.false))
