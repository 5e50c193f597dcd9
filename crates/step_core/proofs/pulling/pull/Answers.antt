use Rattle.step_core.proofs.Prelude.{plan_of, Plan, StaleAgent, ◌≡◌, ◌∙◌, ◌<◌, ap, subst, sym, true, length, eqb-true, OnErr, Result, Performs, SubName, takes_memory, Ok}
use Rattle.stream_model.specs.declared.reply.Reply.TheVariants as reply
use Rattle.pulling_agent.specs.declared.agent.Plan.TheVariants as plan
use Rattle.step_core.specs.PlainOf.{plain_of}
use Rattle.step_core.specs.Replied.{replied}
use Rattle.step_core.proofs.CheckOps.{answered-as}
use Rattle.step_core.proofs.HandOps.{Answer}
use Rattle.step_core.proofs.PlanOps.{planned-is, pull-replaced}
use Rattle.step_core.proofs.pulling.pull.Goals as goal

abbrev told_of : Plan → Result Plan StaleAgent
told_of made = Ok made

planned_as : {given made : Plan} → given ≡ made → told_of made ≡ told_of given
planned_as is = ap told_of (sym is)

pub returns-in-Err-clause-performs : goal.returns-in-Err-clause-performs
returns-in-Err-clause-performs c =
    pull-replaced c.args.parts.now c.args.generation c.args.max c.len-len.result c.least_resume-least.result c.in-Err.field-0 c.in-Err.ensures.plan

pub returns-in-Ok-Dry-clause-performs : goal.returns-in-Ok-Dry-clause-performs
returns-in-Ok-Dry-clause-performs c =
    planned-is c.args.parts.now c.args.generation c.args.max c.len-len.result c.least_resume-least.result plan.Dry c.len-len.ensures.count c.least_resume-least.ensures (planned_as c.in-Ok-Dry.field-0-is ∙ c.in-Ok-Dry.ensures.plan)

pub returns-in-Ok-Held-clause-performs : goal.returns-in-Ok-Held-clause-performs
returns-in-Ok-Held-clause-performs c =
    ap {B = Answer} (λ (by : SubName). (plain_of c.args.parts.now, reply.Pressed by)) c.slowest.ensures
    ∙ planned-is c.args.parts.now c.args.generation c.args.max c.len-len.result c.least_resume-least.result plan.Held c.len-len.ensures.count c.least_resume-least.ensures (planned_as c.in-Ok-Held.field-0-is ∙ c.in-Ok-Held.ensures.plan)

pub take-requires-clause-current : goal.take-requires-clause-current
take-requires-clause-current c =
    let parts = c.args.parts.now in
    let answer = answered-as parts.agent c.args.generation (plan_of parts.agent c.args.max c.len-len.result c.least_resume-least.result) (Ok (plan.Take c.in-Ok-Take.drops c.in-Ok-Take.count)) (planned_as c.in-Ok-Take.field-0-is ∙ c.in-Ok-Take.ensures.plan) in
    eqb-true c.args.generation parts.agent.generation answer.own

pub returns-in-Ok-Take : goal.returns-in-Ok-Take
returns-in-Ok-Take c =
    let p = plain_of c.args.parts.now in
    let is = planned-is c.args.parts.now c.args.generation c.args.max c.len-len.result c.least_resume-least.result (plan.Take c.in-Ok-Take.drops c.in-Ok-Take.count) c.len-len.ensures.count c.least_resume-least.ensures (planned_as c.in-Ok-Take.field-0-is ∙ c.in-Ok-Take.ensures.plan) in
    record {
      assembled = c.take.ensures.assembled;
      performs = subst (λ (done : Answer). Performs p (plain_of c.take.new.parts) (replied c.take.result) done) is c.take.ensures.performs;
      told = c.take.ensures.told;
      memory = subst (λ (done : Answer). OnErr c.take.result (takes_memory done.1 ≡ true)) is c.take.ensures.memory;
      makes = subst (λ (done : Answer). OnErr c.take.result (length p.subs < length done.0.subs)) is c.take.ensures.makes;
    }
