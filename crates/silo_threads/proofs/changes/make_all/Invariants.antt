use Rattle.silo_threads.proofs.Prelude.{◌≡◌, vec_capacity}
use Rattle.silo_threads.proofs.Standing.{AreMade}
use Rattle.silo_threads.proofs.changes.make_all.Given as goal

abbrev pub invariant-loop-silo : goal.invariant-loop-silo
invariant-loop-silo g l = record { made : AreMade l.fn.rounds l.silo l.fn.operator l.operator l.made.items; room : vec_capacity l.made ≡ l.fn.silos }
