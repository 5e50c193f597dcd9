use Rattle.step_core.proofs.Prelude.{◌≡◌, subst, true, and_from, OnErr, Performs, may_allocate, Deliver}
use Rattle.stream_model.specs.Step.{step}
use Rattle.step_core.specs.PlainOf.{plain_of}
use Rattle.step_core.specs.Replied.{replied}
use Rattle.step_core.proofs.AssembledTable.{agrees-after}
use Rattle.step_core.proofs.OutcomeLemmas.{both-fail, fails}
use Rattle.step_core.proofs.partition.Partition.deliver.Goals as goal

pub invariant_of-self : goal.invariant_of-self
unfolding step
invariant_of-self c =
    let called = c.deliver-told in
    agrees-after c.self.inside.parts called.new.parts c.self.invariant called.ensures.assembled c.len.ensures.unique c.len.ensures.records c.len-2.ensures.distinct
    (Deliver c.self.inside.parts.agent.generation c.args.sub.now) (replied called.result) (rw c.generation-generation.ensures at called.ensures.performs)

pub returns-clause-performs : goal.returns-clause-performs
unfolding step
returns-clause-performs c =
    let called = c.deliver-told in
    subst (λ p. Performs p (plain_of called.new.parts) (replied called.result) (step p (Deliver p.generation c.args.sub.now))) c.self.view_is (rw c.generation-generation.ensures at called.ensures.performs)

pub returns-clause-memory : goal.returns-clause-memory
unfolding step
returns-clause-memory c =
    let called = c.deliver-told in
    subst (λ p. OnErr called.result (may_allocate p (Deliver p.generation c.args.sub.now) ≡ true)) c.self.view_is
    (subst (λ generation. OnErr called.result (may_allocate (plain_of c.self.inside.parts) (Deliver generation c.args.sub.now) ≡ true)) c.generation-generation.ensures
    (fails called.result (both-fail _ _ called.result called.ensures.memory called.ensures.first) (λ wants. and_from _ _ wants.0 wants.1)))
