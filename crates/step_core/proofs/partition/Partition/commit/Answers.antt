use Rattle.step_core.proofs.Prelude.{◌≡◌, refl, subst, true, and_from, OnErr, Performs, may_allocate, Commit}
use Rattle.stream_model.specs.Step.{step}
use Rattle.step_core.specs.PlainOf.{plain_of}
use Rattle.step_core.specs.Replied.{replied}
use Rattle.step_core.proofs.AssembledTable.{agrees-after}
use Rattle.step_core.proofs.OutcomeLemmas.{fails}
use Rattle.step_core.proofs.partition.Partition.commit.Goals as goal

pub invariant_of-self : goal.invariant_of-self
unfolding step
invariant_of-self c =
    let called = c.commit-told in
    agrees-after c.self.inside.parts called.new.parts c.self.invariant called.ensures.assembled c.len.ensures.unique c.len.ensures.records c.len-2.ensures.distinct
    (Commit c.args.grain.now c.args.activation c.args.turn c.args.note) (replied called.result) called.ensures.performs

pub returns-clause-performs : goal.returns-clause-performs
unfolding step
returns-clause-performs c =
    let called = c.commit-told in
    subst (λ p. Performs p (plain_of called.new.parts) (replied called.result) (step p (Commit c.args.grain.now c.args.activation c.args.turn c.args.note))) c.self.view_is called.ensures.performs

pub returns-clause-memory : goal.returns-clause-memory
unfolding step
returns-clause-memory c =
    let called = c.commit-told in
    subst (λ p. OnErr called.result (may_allocate p (Commit c.args.grain.now c.args.activation c.args.turn c.args.note) ≡ true)) c.self.view_is
    (fails called.result called.ensures.memory (λ wants. and_from _ _ wants refl))
