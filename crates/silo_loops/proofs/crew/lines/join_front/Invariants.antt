use Rattle.silo_loops.proofs.Prelude.{vec_len}
use Rattle.silo_loops.proofs.Going.{Joining}
use Rattle.silo_loops.proofs.crew.lines.join_front.Given as goal

abbrev pub invariant-loop-other : goal.invariant-loop-other
invariant-loop-other g l = Joining l.fn.lines.items l.fn.others.items l.lines.items l.others.items

abbrev pub decreases-loop-other : goal.decreases-loop-other
decreases-loop-other g l = vec_len l.others
