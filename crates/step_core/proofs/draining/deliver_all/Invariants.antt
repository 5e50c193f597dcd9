use Rattle.step_core.proofs.Prelude.{◌-◌, deliver_up_to}
use Rattle.step_core.proofs.DrainLoops.{Suffices}
use Rattle.step_core.proofs.draining.deliver_all.Given as goal

abbrev pub invariant-loop : goal.invariant-loop
invariant-loop l = Suffices l.fn.partition l.partition (deliver_up_to (l.most - l.counter) l.sub l.grain l.partition) (deliver_up_to l.most l.sub l.grain l.fn.partition)
