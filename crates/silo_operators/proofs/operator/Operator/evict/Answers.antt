use Rattle.silo_operators.proofs.Prelude.{IfErr, OnOk, subst}
use Rattle.silo_operators.specs.declared.halt.Halt.{Halt}
use Rattle.silo_operators.specs.Changes.{AreDeactivated, HaveMovedNowhere, HoldsGrains}
use Rattle.silo_operators.specs.Operators.{OperatorView}
use Rattle.silo_operators.proofs.Spreading.{operator-on}
use Rattle.silo_operators.proofs.operator.Operator.evict.Goals as goal

pub returns-clause-deactivated : goal.returns-clause-deactivated
returns-clause-deactivated g c =
    subst (λ (v : OperatorView). OnOk c.evict.result (AreDeactivated c.args.silo v.directory c.evict.new.directory v.lines c.evict.new.lines.items)) c.self.view_is c.evict.ensures.deactivated

pub invariant_of-self : goal.invariant_of-self
invariant_of-self g c = operator-on _ c.evict.new.lines.items c.evict.new.directory c.self.invariant c.evict.ensures.on

pub returns-clause-holds : goal.returns-clause-holds
returns-clause-holds g c =
    subst (λ (v : OperatorView). IfErr c.evict.result (λ (why : Halt). HoldsGrains why c.args.silo v.directory c.evict.new.directory c.evict.new.lines.items)) c.self.view_is c.evict.ensures.holds

pub returns-clause-nowhere : goal.returns-clause-nowhere
returns-clause-nowhere g c =
    subst (λ (v : OperatorView). OnOk c.evict.result (HaveMovedNowhere v.lines c.evict.new.lines.items)) c.self.view_is c.evict.ensures.nowhere
