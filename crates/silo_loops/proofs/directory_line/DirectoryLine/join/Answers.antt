use Rattle.silo_loops.proofs.Prelude.{subst, Agree}
use Rattle.silo_loops.specs.Lines.{DirectoryPass}
use Rattle.silo_loops.proofs.directory_line.DirectoryLine.join.Goals as goal

pub returns-clause-agree : goal.returns-clause-agree
returns-clause-agree g c =
    subst (λ (p : DirectoryPass). Agree p c.args.other c.join.new.self) c.self.view_is
    (subst (λ (q : DirectoryPass). Agree c.self.inside.handle q c.join.new.self) c.other.view_is c.join.ensures.agree)
