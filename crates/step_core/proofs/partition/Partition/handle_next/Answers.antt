use Rattle.step_core.proofs.Prelude.{sym, subst, arith, SubName, PlainPartition, name_at}
use Rattle.step_core.specs.PlainOf.{plain_of}
use Rattle.step_core.specs.Serving.{name_of, HandlesNext}
use Rattle.step_core.proofs.AssembledTable.{agrees-led}
use Rattle.step_core.proofs.CatchOps.{count-is, handled-leads, name-is, next-ready}
use Rattle.step_core.proofs.partition.Partition.handle_next.Goals as goal

pub handle_next-sought-requires-clause-number : goal.handle_next-sought-requires-clause-number
handle_next-sought-requires-clause-number c = omega (arith, c.requires.number, count-is c.self.inside.parts c.args.self.now c.self.invariant c.self.view_is)

pub handle_next-sought-requires-clause-ready : goal.handle_next-sought-requires-clause-ready
handle_next-sought-requires-clause-ready c = next-ready c.self.inside.parts c.args.self.now c.args.number c.args.position c.self.invariant c.self.view_is c.requires.number c.requires.next

pub invariant_of-self : goal.invariant_of-self
invariant_of-self c =
    let parts = c.self.inside.parts in
    let called = c.handle_next-sought in
    agrees-led parts called.new.parts c.self.invariant called.ensures.assembled c.len.ensures.unique c.len.ensures.records c.len-2.ensures.distinct
    (handled-leads (plain_of parts) (plain_of called.new.parts) (name_at parts.subs c.args.number) called.result called.ensures.told)

pub returns : goal.returns
returns c =
    let parts = c.self.inside.parts in
    let new = plain_of c.handle_next-sought.new.parts in
    subst (λ (p : PlainPartition). HandlesNext p new (name_of p c.args.number) c.handle_next-sought.result) c.self.view_is
    (subst (λ (s : SubName). HandlesNext (plain_of parts) new s c.handle_next-sought.result) (sym (name-is parts c.args.number c.self.invariant)) c.handle_next-sought.ensures.told)
