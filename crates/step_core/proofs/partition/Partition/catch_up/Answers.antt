use Rattle.step_core.proofs.Prelude.{sym, subst, arith, SubName, PlainPartition, name_at}
use Rattle.step_core.specs.PlainOf.{plain_of}
use Rattle.step_core.specs.Serving.{name_of, CatchesUp}
use Rattle.step_core.proofs.AssembledTable.{agrees-led}
use Rattle.step_core.proofs.CatchOps.{caught-leads, count-is, name-is}
use Rattle.step_core.proofs.partition.Partition.catch_up.Goals as goal

pub catch_up-is_caught_up-requires-clause-number : goal.catch_up-is_caught_up-requires-clause-number
catch_up-is_caught_up-requires-clause-number c = omega (arith, c.requires, count-is c.self.inside.parts c.args.self.now c.self.invariant c.self.view_is)

pub invariant_of-self : goal.invariant_of-self
invariant_of-self c =
    let parts = c.self.inside.parts in
    let called = c.catch_up-is_caught_up in
    agrees-led parts called.new.parts c.self.invariant called.ensures.assembled c.len.ensures.unique c.len.ensures.records c.len-2.ensures.distinct
    (caught-leads (plain_of parts) (plain_of called.new.parts) (name_at parts.subs c.args.number) called.result called.ensures.told)

pub returns : goal.returns
returns c =
    let parts = c.self.inside.parts in
    let new = plain_of c.catch_up-is_caught_up.new.parts in
    subst (λ (p : PlainPartition). CatchesUp p new (name_of p c.args.number) c.catch_up-is_caught_up.result) c.self.view_is
    (subst (λ (s : SubName). CatchesUp (plain_of parts) new s c.catch_up-is_caught_up.result) (sym (name-is parts c.args.number c.self.invariant)) c.catch_up-is_caught_up.ensures.told)
