use Rattle.step_core.proofs.Prelude.{done-stale, take_next, ◌∙◌, sym, eq-eqb, false≢true}
use Rattle.step_core.proofs.pulling.fill.Goals as goal

-- who names the agent's own generation isn't refused
pub returns-in-Err : goal.returns-in-Err
returns-in-Err c =
    let a = c.args.parts.now.agent in
    let refused = done-stale a c.args.generation a (take_next a c.args.drops c.args.parts.now.queue c.args.count) c.pull.new.self c.in-Err.field-0 c.in-Err.ensures.pull in
    absurd (false≢true (sym refused.other ∙ eq-eqb c.args.generation a.generation c.requires.current))
