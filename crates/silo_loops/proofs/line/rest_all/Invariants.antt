use Rattle.silo_loops.proofs.Prelude.{◌≡◌, ◌++◌, drop, map, take}
use Rattle.silo_loops.specs.Lines.{rested}
use Rattle.silo_loops.proofs.line.rest_all.Given as goal

abbrev pub invariant-loop-at : goal.invariant-loop-at
invariant-loop-at g l = l.lines.items ≡ map rested (take l.at l.fn.lines.items) ++ drop l.at l.fn.lines.items
