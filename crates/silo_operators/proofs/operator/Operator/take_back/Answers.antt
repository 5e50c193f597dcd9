use Rattle.silo_operators.proofs.Spreading.{operator-on}
use Rattle.silo_operators.proofs.operator.Operator.take_back.Goals as goal

pub invariant_of-self : goal.invariant_of-self
invariant_of-self g c = operator-on _ c.join_into.new.lines.items c.join_into.new.directory c.self.invariant c.join_into.ensures.go_on
