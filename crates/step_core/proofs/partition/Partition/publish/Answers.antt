use Rattle.step_core.proofs.Prelude.{◌≡◌, true, map, refl, subst, and_from, OnErr, Performs, may_allocate, Op, Publish}
use Rattle.stream_model.specs.Step.{step}
use Rattle.step_core.specs.PlainOf.{plain_of}
use Rattle.step_core.specs.Replies.{appended_reply}
use Rattle.step_core.proofs.AssembledTable.{agrees-after}
use Rattle.step_core.proofs.OutcomeLemmas.{fails}
use Rattle.step_core.proofs.partition.Partition.publish.Goals as goal

abbrev op : goal.After-len-2 → Op
op c = Publish c.args.stream.now (map (λ payload. payload.now) c.args.payloads.now)

-- the operation on the parts
done : (c : goal.After-len-2) → let outcome = c.publish_slices-appended in
    Performs (plain_of c.self.inside.parts) (plain_of outcome.new.parts) (appended_reply outcome.result) (step (plain_of c.self.inside.parts) (op c))
unfolding step
done c = c.publish_slices-appended.ensures.performs

pub invariant_of-self : goal.invariant_of-self
invariant_of-self c =
    let outcome = c.publish_slices-appended in
    agrees-after c.self.inside.parts outcome.new.parts c.self.invariant outcome.ensures.assembled c.len.ensures.unique c.len.ensures.records c.len-2.ensures.distinct
    (op c) (appended_reply outcome.result) (done c)

pub returns-clause-performs : goal.returns-clause-performs
returns-clause-performs c =
    let outcome = c.publish_slices-appended in
    subst (λ p. Performs p (plain_of outcome.new.parts) (appended_reply outcome.result) (step p (op c))) c.self.view_is (done c)

pub returns-clause-memory : goal.returns-clause-memory
unfolding step
returns-clause-memory c =
    let outcome = c.publish_slices-appended in
    subst (λ p. OnErr outcome.result (may_allocate p (op c) ≡ true)) c.self.view_is (fails outcome.result outcome.ensures.memory (λ wants. and_from _ _ wants refl))
