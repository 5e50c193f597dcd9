use Rattle.step_core.proofs.Prelude.{◌-◌}
use Rattle.step_core.specs.Serving.{name_of, HasNext}
use Rattle.step_core.proofs.ServeOps.{Serves}
use Rattle.step_core.proofs.draining.serve_number.Given as goal

abbrev pub invariant-loop-done : goal.invariant-loop-done
invariant-loop-done l = Serves l.fn.partition l.partition l.number (l.most - l.done) × HasNext l.partition (name_of l.partition l.number) l.position
