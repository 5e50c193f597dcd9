use Rattle.silo_loops.proofs.Prelude.{ap, arith, refl, set, ◌∙◌, rules, common_steps}
use Rattle.std.proofs.lemmas.List.Edits.{map_over_more}
use Rattle.silo_loops.specs.Lines.{rested}
use Rattle.silo_loops.proofs.Resting.{rested-all}
use Rattle.silo_loops.proofs.line.rest_all.Goals as goal

pub loop-at-init : goal.loop-at-init
loop-at-init g c = refl

pub loop-at-preserved : goal.loop-at-preserved
loop-at-preserved g c =
    ap (λ l. set c.loop-at.lines.items c.loop-at.at l) c.rest.ensures
    ∙ map_over_more rested c.args.lines.now.items c.loop-at.lines.items c.loop-at.at c.index_mut.result.now (first_of (omega (arith, c.loop-at-test.true, c.len-at-end.ensures), search rules, grind (arith, common_steps))) c.loop-at.invariant c.index_mut.ensures.value

pub returns : goal.returns
returns g c =
    c.loop-at.invariant ∙ rested-all c.args.lines.now.items c.loop-at.at (first_of (omega (arith, c.loop-at-test.false, c.len-at-end.ensures), search rules, grind (arith, common_steps)))
