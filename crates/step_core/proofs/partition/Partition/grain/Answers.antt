use Rattle.step_core.proofs.Prelude.{◌∙◌, ◌<◌, length, ap, sym, Some, arith, option_map, GrainId, sub_at, PlainPartition}
use Rattle.step_core.specs.Serving.{grain_of, name_of}
use Rattle.step_core.proofs.CatchOps.{count-is, number-found}
use Rattle.step_core.proofs.partition.Partition.grain.Goals as goal

pub grain-requires : goal.grain-requires
grain-requires c = omega (arith, c.requires, count-is c.self.inside.parts c.args.self.now c.self.invariant c.self.view_is)

pub returns : goal.returns
returns c =
    let parts = c.self.inside.parts in
    let within : c.args.number < length parts.subs.registry.names = omega (arith, c.requires, count-is parts c.args.self.now c.self.invariant c.self.view_is) in
    ap (λ (g : GrainId). Some g) c.grain.ensures
    ∙ sym (ap (option_map grain_of) (number-found parts c.args.number c.self.invariant within))
    ∙ ap (λ (p : PlainPartition). option_map grain_of (sub_at p (name_of p c.args.number))) c.self.view_is
