use Rattle.silo_operators.proofs.Prelude.{goes-some, IfErr, List, subst, ℕ}
use Rattle.silo_operators.specs.declared.halt.Halt.{Halt}
use Rattle.silo_operators.specs.Operators.{IsUnspread, OperatorView}
use Rattle.silo_operators.proofs.operator.Operator.spread.Goals as goal

pub invariant_of-self : goal.invariant_of-self
invariant_of-self g c =
    record {
      some = goes-some c.self.inside.lines.items c.spread_queues.new.lines.items c.spread_queues.ensures.on c.self.invariant.some;
      assigned = c.spread_queues.ensures.assigned;
      once = c.self.invariant.once;
    }

pub returns-clause-unspread : goal.returns-clause-unspread
returns-clause-unspread g c =
    subst (λ (v : OperatorView). IfErr c.spread_queues.result (λ (why : Halt). IsUnspread why v.assignment v.live v.lines c.spread_queues.new.lines.items)) c.self.view_is
    (subst (λ (live : List ℕ). IfErr c.spread_queues.result (λ (why : Halt). IsUnspread why c.self.inside.assignment.items live c.self.inside.lines.items c.spread_queues.new.lines.items)) c.as_slice.ensures.value
    c.spread_queues.ensures.unspread)
