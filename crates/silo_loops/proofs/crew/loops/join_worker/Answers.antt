use Rattle.silo_loops.proofs.Prelude.{subst}
use Rattle.silo_loops.specs.Lines.{DirectoryPass}
use Rattle.silo_loops.specs.Passes.{IsOtherIn}
use Rattle.silo_loops.proofs.Taking.{taken-joined}
use Rattle.silo_loops.proofs.Going.{silent-joined}
use Rattle.silo_loops.proofs.crew.loops.join_worker.Goals as goal

pub returns-clause-directory : goal.returns-clause-directory
returns-clause-directory g c = silent-joined c.args.directory.now c.into_parts-own.result.1 c.join.new.self c.join.ensures.joined c.join.ensures.agree

pub returns-clause-asks : goal.returns-clause-asks
returns-clause-asks g c =
    subst (λ (d : DirectoryPass). IsOtherIn d c.join.new.self) c.into_parts-own.ensures.directory
    (taken-joined c.args.directory.now c.into_parts-own.result.1 c.join.new.self c.join.ensures.joined c.join.ensures.agree)
