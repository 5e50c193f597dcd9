use Rattle.partition_reference.proofs.Prelude.{◌≡◌, drop, same_sub, first_at, place_of}
use Rattle.partition_reference.proofs.records.place_of_sub.Given as goal

abbrev pub invariant-loop-place : goal.invariant-loop-place
invariant-loop-place l =
    first_at (λ entry. same_sub l.name entry.0) l.place (drop l.place l.subs) ≡ place_of same_sub l.name l.subs
