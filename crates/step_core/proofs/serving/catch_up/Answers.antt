use Rattle.step_core.proofs.Prelude.{done-stale, high, ◌∙◌, sym, subst, ◌≤◌, max, false, arith, ltb-false, past, PlainTable, state_at}
use Rattle.pulling_agent.specs.declared.told.Sought.TheVariants as sought
use Rattle.step_core.specs.Assembly.{IsAssembled}
use Rattle.step_core.proofs.CatchOps.{caught-assembled, caught-up}
use Rattle.step_core.proofs.HandOps.{Searched, Stands, cursor-low, high-few, search_in, searched-is, with_subs}
use Rattle.step_core.proofs.RetryOps.{refused-assembled}
use Rattle.step_core.proofs.serving.catch_up.Goals as goal

pub deliver-requires-clause-cursor : goal.deliver-requires-clause-cursor
deliver-requires-clause-cursor c =
    let parts = c.args.parts.now in
    let stands : Stands parts c.args.number = record { agrees = c.requires.agrees; within = c.requires.number } in
    cursor-low parts c.args.number stands

pub deliver-requires-clause-high : goal.deliver-requires-clause-high
deliver-requires-clause-high c = omega (arith, high-few c.args.parts.now c.requires.agrees)

pub returns-in-Ok-Nothing : goal.returns-in-Ok-Nothing
returns-in-Ok-Nothing c =
    let parts = c.args.parts.now in
    let stands : Stands parts c.args.number = record { agrees = c.requires.agrees; within = c.requires.number } in
    let state = state_at parts.subs c.args.number in
    let reach : past state.handled ≤ max state.cursor (high parts.agent.cache) =
    ltb-false (max state.cursor (high parts.agent.cache)) (past state.handled) (sym c.is_ahead.ensures ∙ c.if-is_ahead.false) in
    let searched : Searched parts c.deliver.new.self c.args.number false sought.Nothing =
    searched-is parts c.generation-generation.result c.deliver.new.self c.args.number false sought.Nothing c.in-Ok-Nothing.field-0 c.in-Ok-Nothing.field-0-is c.in-Ok-Nothing.ensures.sought in
    record {
      assembled = caught-assembled parts c.deliver.new.self c.args.number stands searched;
      told = caught-up parts c.deliver.new.self c.args.number stands (sym c.is_held.ensures ∙ c.if-is_held.false) reach searched;
    }

pub returns-in-Ok-Next-clause-assembled : goal.returns-in-Ok-Next-clause-assembled
returns-in-Ok-Next-clause-assembled c =
    let parts = c.args.parts.now in
    let searched : Searched parts c.deliver.new.self c.args.number false (sought.Next c.in-Ok-Next.field-0-0) =
    searched-is parts c.generation-generation.result c.deliver.new.self c.args.number false (sought.Next c.in-Ok-Next.field-0-0) c.in-Ok-Next.field-0 c.in-Ok-Next.field-0-is c.in-Ok-Next.ensures.sought in
    subst (λ (t : PlainTable). IsAssembled (with_subs parts t)) (sym searched.0) c.requires.agrees.assembled

pub returns-in-Ok-Closed-clause-assembled : goal.returns-in-Ok-Closed-clause-assembled
returns-in-Ok-Closed-clause-assembled c =
    let parts = c.args.parts.now in
    let searched : Searched parts c.deliver.new.self c.args.number false sought.Closed =
    searched-is parts c.generation-generation.result c.deliver.new.self c.args.number false sought.Closed c.in-Ok-Closed.field-0 c.in-Ok-Closed.field-0-is c.in-Ok-Closed.ensures.sought in
    subst (λ (t : PlainTable). IsAssembled (with_subs parts t)) (sym searched.0) c.requires.agrees.assembled

pub returns-in-Err-clause-assembled : goal.returns-in-Err-clause-assembled
returns-in-Err-clause-assembled c =
    let parts = c.args.parts.now in
    let refused = done-stale parts.agent c.generation-generation.result parts.subs (search_in parts c.args.number false) c.deliver.new.self c.in-Err.field-0 c.in-Err.ensures.sought in
    refused-assembled parts c.generation-generation.result c.deliver.new.self c.in-Err.field-0 refused c.requires.agrees.assembled
