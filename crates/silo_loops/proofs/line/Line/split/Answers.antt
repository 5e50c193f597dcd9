use Rattle.silo_loops.proofs.Prelude.{rules}
use Rattle.stream_model.specs.Producers.{is_producer}
use Rattle.silo_loops.proofs.Kept.{kept-split}
use Rattle.silo_loops.proofs.Owning.{owns-split}
use Rattle.silo_loops.proofs.line.Line.split.Goals as goal

pub line_of-requires-clause-never : goal.line_of-requires-clause-never
line_of-requires-clause-never g c =
    let h = owns-split is_producer c.self.inside.handle c.in_ok-split.field-0 c.in_ok-split.ensures.new in search (rules, h)

pub invariant_of-self : goal.invariant_of-self
invariant_of-self g c =
    kept-split c.self.inside.handle c.split.new.self c.self.inside.mark c.self.inside.looked c.self.inside.pulled c.split.result c.split.ensures.same c.split.ensures.made c.self.invariant.0 c.self.invariant.1
