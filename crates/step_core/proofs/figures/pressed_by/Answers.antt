use Rattle.step_core.proofs.Prelude.{Plan, StaleAgent, ◌∙◌, ap, sym, refl, Result, unwrap_or, slowest_name, Ok}
use Rattle.stream_ident.specs.declared.ident.SubName.TheVariants as name
use Rattle.pulling_agent.specs.declared.agent.Plan.TheVariants as plan
use Rattle.step_core.specs.PlainOf.{plain_of}
use Rattle.step_core.proofs.FigureOps.{pressed-is}
use Rattle.step_core.proofs.figures.pressed_by.Goals as goal

pub returns-in-Ok-Held : goal.returns-in-Ok-Held
returns-in-Ok-Held c =
    pressed-is c.args.parts.now c.generation.result c.len.result c.least_resume-least.result c.slowest.result (Ok plan.Held) c.generation.ensures c.len.ensures.count c.least_resume-least.ensures c.slowest.ensures
    (ap {B = Result Plan StaleAgent} Ok (sym c.in-Ok-Held.field-0-is) ∙ c.in-Ok-Held.ensures.plan)

pub returns-in-Ok-Dry : goal.returns-in-Ok-Dry
returns-in-Ok-Dry c =
    pressed-is c.args.parts.now c.generation.result c.len.result c.least_resume-least.result (unwrap_or (slowest_name (plain_of c.args.parts.now)) (name.Explicit 0)) (Ok plan.Dry) c.generation.ensures c.len.ensures.count c.least_resume-least.ensures refl
    (ap {B = Result Plan StaleAgent} Ok (sym c.in-Ok-Dry.field-0-is) ∙ c.in-Ok-Dry.ensures.plan)

pub returns-in-Ok-Take : goal.returns-in-Ok-Take
returns-in-Ok-Take c =
    pressed-is c.args.parts.now c.generation.result c.len.result c.least_resume-least.result (unwrap_or (slowest_name (plain_of c.args.parts.now)) (name.Explicit 0)) (Ok (plan.Take c.in-Ok-Take.field-0-0 c.in-Ok-Take.field-0-1)) c.generation.ensures c.len.ensures.count c.least_resume-least.ensures refl
    (ap {B = Result Plan StaleAgent} Ok (sym c.in-Ok-Take.field-0-is) ∙ c.in-Ok-Take.ensures.plan)
