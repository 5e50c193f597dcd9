use Rattle.step_core.proofs.Prelude.{SubState, ◌∙◌, ◌<◌, length, ap, sym, Some, arith, option_map, sub_at, PlainPartition}
use Rattle.step_core.specs.Serving.{cursor_of, name_of}
use Rattle.step_core.proofs.CatchOps.{count-is, number-found}
use Rattle.step_core.proofs.partition.Partition.cursor.Goals as goal

pub state-requires : goal.state-requires
state-requires c = omega (arith, c.requires, count-is c.self.inside.parts c.args.self.now c.self.invariant c.self.view_is)

pub returns : goal.returns
returns c =
    let parts = c.self.inside.parts in
    let within : c.args.number < length parts.subs.registry.names = omega (arith, c.requires, count-is parts c.args.self.now c.self.invariant c.self.view_is) in
    ap (λ (s : SubState). Some s.cursor) c.state.ensures
    ∙ sym (ap (option_map cursor_of) (number-found parts c.args.number c.self.invariant within))
    ∙ ap (λ (p : PlainPartition). option_map cursor_of (sub_at p (name_of p c.args.number))) c.self.view_is
