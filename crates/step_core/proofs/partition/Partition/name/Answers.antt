use Rattle.step_core.proofs.Prelude.{◌∙◌, ap, sym, arith}
use Rattle.step_core.specs.Serving.{name_of}
use Rattle.step_core.proofs.CatchOps.{count-is, name-is}
use Rattle.step_core.proofs.partition.Partition.name.Goals as goal

pub name-requires : goal.name-requires
name-requires c = omega (arith, c.requires, count-is c.self.inside.parts c.args.self.now c.self.invariant c.self.view_is)

pub returns : goal.returns
returns c =
    c.name.ensures ∙ sym (name-is c.self.inside.parts c.args.number c.self.invariant) ∙ ap (λ p. name_of p c.args.number) c.self.view_is
