use Rattle.turnstile.proofs.Prelude.{◌≡◌, length, min, take}
use Rattle.turnstile.specs.Closing.{all_numbers}
use Rattle.turnstile.proofs.turnstile.Turnstile.count_numbers.Given as goal

-- the numbers of the passes so far
abbrev pub invariant-loop-pass : goal.invariant-loop-pass
invariant-loop-pass g l = l.count ≡ min (length (all_numbers (take l.pass-index l.passes.items))) 18446744073709551615
