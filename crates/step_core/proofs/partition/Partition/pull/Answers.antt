use Rattle.step_core.proofs.Prelude.{◌≡◌, subst, true, and_from, lt-ltb, OnErr, Performs, may_allocate, Pull}
use Rattle.stream_model.specs.Step.{step}
use Rattle.step_core.specs.PlainOf.{plain_of}
use Rattle.step_core.specs.Replied.{replied}
use Rattle.step_core.proofs.AssembledTable.{agrees-after}
use Rattle.step_core.proofs.OutcomeLemmas.{both-fail, fails}
use Rattle.step_core.proofs.partition.Partition.pull.Goals as goal

pub invariant_of-self : goal.invariant_of-self
unfolding step
invariant_of-self c =
    let called = c.pull-told in
    agrees-after c.self.inside.parts called.new.parts c.self.invariant called.ensures.assembled c.len.ensures.unique c.len.ensures.records c.len-2.ensures.distinct
    (Pull c.self.inside.parts.agent.generation c.args.max) (replied called.result) (rw c.generation-generation.ensures at called.ensures.performs)

pub returns-clause-performs : goal.returns-clause-performs
unfolding step
returns-clause-performs c =
    let called = c.pull-told in
    subst (λ p. Performs p (plain_of called.new.parts) (replied called.result) (step p (Pull p.generation c.args.max))) c.self.view_is (rw c.generation-generation.ensures at called.ensures.performs)

pub returns-clause-memory : goal.returns-clause-memory
unfolding step
returns-clause-memory c =
    let called = c.pull-told in
    subst (λ p. OnErr called.result (may_allocate p (Pull p.generation c.args.max) ≡ true)) c.self.view_is
    (subst (λ generation. OnErr called.result (may_allocate (plain_of c.self.inside.parts) (Pull generation c.args.max) ≡ true)) c.generation-generation.ensures
    (fails called.result (both-fail _ _ called.result called.ensures.memory called.ensures.makes) (λ wants. and_from _ _ wants.0 (lt-ltb _ _ wants.1))))
