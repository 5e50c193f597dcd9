use Rattle.partition_reference.proofs.Prelude.{◌≡◌, drop, same_grain, first_at, place_of}
use Rattle.partition_reference.proofs.records.place_of_grain.Given as goal

abbrev pub invariant-loop-place : goal.invariant-loop-place
invariant-loop-place l =
    first_at (λ entry. same_grain l.id entry.0) l.place (drop l.place l.grains) ≡ place_of same_grain l.id l.grains
