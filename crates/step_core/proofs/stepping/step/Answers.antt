use Rattle.step_core.proofs.Prelude.{sym, ap, ◌∙◌, refl, and_from, lt-ltb, may_allocate}
use Rattle.step_core.proofs.OutcomeLemmas.{both-fail, fails, performs-as}
use Rattle.stream_model.specs.Step.{step}
use Rattle.step_core.specs.PlainOf.{plain_of}
use Rattle.step_core.proofs.stepping.step.Goals as goal

pub returns-in-Publish-clause-performs : goal.returns-in-Publish-clause-performs
unfolding step
returns-in-Publish-clause-performs c =
    performs-as _ _ _ c.publish.result _ _ c.publish.ensures.performs c.publish.ensures.told (ap (step (plain_of c.args.parts.now)) (sym c.in-Publish.is))

pub returns-in-Publish-clause-memory : goal.returns-in-Publish-clause-memory
unfolding step
returns-in-Publish-clause-memory c =
    fails c.publish.result c.publish.ensures.memory (λ wants. ap (may_allocate (plain_of c.args.parts.now)) c.in-Publish.is ∙ and_from _ _ wants refl)

pub returns-in-Subscribe-clause-performs : goal.returns-in-Subscribe-clause-performs
unfolding step
returns-in-Subscribe-clause-performs c =
    performs-as _ _ _ c.subscribe.result _ _ c.subscribe.ensures.performs c.subscribe.ensures.told (ap (step (plain_of c.args.parts.now)) (sym c.in-Subscribe.is))

pub returns-in-Subscribe-clause-memory : goal.returns-in-Subscribe-clause-memory
unfolding step
returns-in-Subscribe-clause-memory c =
    fails c.subscribe.result c.subscribe.ensures.memory (λ wants. ap (may_allocate (plain_of c.args.parts.now)) c.in-Subscribe.is ∙ and_from _ _ wants refl)

pub returns-in-AddRule-clause-performs : goal.returns-in-AddRule-clause-performs
unfolding step
returns-in-AddRule-clause-performs c =
    performs-as _ _ _ c.add_rule.result _ _ c.add_rule.ensures.performs c.add_rule.ensures.told (ap (step (plain_of c.args.parts.now)) (sym c.in-AddRule.is))

pub returns-in-AddRule-clause-memory : goal.returns-in-AddRule-clause-memory
unfolding step
returns-in-AddRule-clause-memory c =
    fails c.add_rule.result c.add_rule.ensures.memory (λ wants. ap (may_allocate (plain_of c.args.parts.now)) c.in-AddRule.is ∙ and_from _ _ wants refl)

pub returns-in-Pull-clause-performs : goal.returns-in-Pull-clause-performs
unfolding step
returns-in-Pull-clause-performs c =
    performs-as _ _ _ c.pull.result _ _ c.pull.ensures.performs c.pull.ensures.told (ap (step (plain_of c.args.parts.now)) (sym c.in-Pull.is))

pub returns-in-Pull-clause-memory : goal.returns-in-Pull-clause-memory
unfolding step
returns-in-Pull-clause-memory c =
    fails c.pull.result (both-fail _ _ c.pull.result c.pull.ensures.memory c.pull.ensures.makes) (λ wants. ap (may_allocate (plain_of c.args.parts.now)) c.in-Pull.is ∙ and_from _ _ wants.0 (lt-ltb _ _ wants.1))

pub returns-in-Deliver-clause-performs : goal.returns-in-Deliver-clause-performs
unfolding step
returns-in-Deliver-clause-performs c =
    performs-as _ _ _ c.deliver.result _ _ c.deliver.ensures.performs c.deliver.ensures.told (ap (step (plain_of c.args.parts.now)) (sym c.in-Deliver.is))

pub returns-in-Deliver-clause-memory : goal.returns-in-Deliver-clause-memory
unfolding step
returns-in-Deliver-clause-memory c =
    fails c.deliver.result (both-fail _ _ c.deliver.result c.deliver.ensures.memory c.deliver.ensures.first) (λ wants. ap (may_allocate (plain_of c.args.parts.now)) c.in-Deliver.is ∙ and_from _ _ wants.0 wants.1)

pub returns-in-Commit-clause-performs : goal.returns-in-Commit-clause-performs
unfolding step
returns-in-Commit-clause-performs c =
    performs-as _ _ _ c.commit.result _ _ c.commit.ensures.performs c.commit.ensures.told (ap (step (plain_of c.args.parts.now)) (sym c.in-Commit.is))

pub returns-in-Commit-clause-memory : goal.returns-in-Commit-clause-memory
unfolding step
returns-in-Commit-clause-memory c =
    fails c.commit.result c.commit.ensures.memory (λ wants. ap (may_allocate (plain_of c.args.parts.now)) c.in-Commit.is ∙ and_from _ _ wants refl)
