use Rattle.silo_loops.proofs.Prelude.{subst, Agree}
use Rattle.silo_loops.specs.Lines.{LineView}
use Rattle.silo_loops.proofs.Kept.{kept-join}
use Rattle.silo_loops.proofs.line.Line.join.Goals as goal

pub invariant_of-self : goal.invariant_of-self
invariant_of-self g c =
    kept-join c.self.inside.handle c.other.inside.handle c.join.new.self c.self.inside.mark c.self.inside.looked c.self.inside.pulled c.join.ensures.joined c.join.ensures.agree c.other.invariant.1.never c.self.invariant.0 c.self.invariant.1

pub returns-clause-agree : goal.returns-clause-agree
returns-clause-agree g c =
    subst (λ (l : LineView). Agree l.pass c.args.other.pass c.join.new.self) c.self.view_is
    (subst (λ (l : LineView). Agree c.self.inside.handle l.pass c.join.new.self) c.other.view_is c.join.ensures.agree)
