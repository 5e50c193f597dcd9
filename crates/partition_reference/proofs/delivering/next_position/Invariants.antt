use Rattle.partition_reference.proofs.Prelude.{◌≡◌, is_owed, first_at, between}
use Rattle.partition_reference.proofs.delivering.next_position.Given as goal

abbrev pub invariant-loop-position : goal.invariant-loop-position
invariant-loop-position l =
    first_at (λ event. is_owed l.sub.stream l.sub.start event) l.position (between l.log l.position l.high)
    ≡ first_at (λ event. is_owed l.sub.stream l.sub.start event) l.sub.cursor (between l.log l.sub.cursor l.high)
