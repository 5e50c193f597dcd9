use Rattle.silo_loops.proofs.Prelude.{arith, refl, ◌∙◌, rules, common_steps}
use Rattle.silo_loops.proofs.Going.{goes-refl, goes-trans, refused-alike, refused-on, split-more, splits-all}
use Rattle.silo_loops.proofs.crew.lines.split_lines.Goals as goal

pub returns-in_err-new-clause-go_on : goal.returns-in_err-new-clause-go_on
returns-in_err-new-clause-go_on g c = goes-refl c.args.lines.now.items

pub join_front-requires-after_bounds : goal.join_front-requires-after_bounds
join_front-requires-after_bounds g c κs within =
    refused-alike c.args.lines.now.items c.loop-at.lines.items _ c.loop-at.new.items c.loop-at.at c.split.new.self c.loop-at.invariant.same c.loop-at.invariant.made c.loop-at.invariant.off refl

pub returns-in-Err-clause-go_on : goal.returns-in-Err-clause-go_on
returns-in-Err-clause-go_on g c =
    goes-trans c.args.lines.now.items _ c.join_front.new.lines.items
    (refused-on c.args.lines.now.items c.loop-at.lines.items _ c.loop-at.at c.index_mut-line.result.now c.split.new.self (first_of (omega (arith, c.loop-at-test.true, c.len-at-end.ensures), search rules, grind (arith, common_steps))) c.loop-at.invariant.same
    c.index_mut-line.ensures.value c.in-Err.ensures.made.0 refl) c.join_front.ensures.go_on

pub loop-at-preserved : goal.loop-at-preserved
loop-at-preserved g c =
    let more = split-more c.args.lines.now.items c.loop-at.lines.items _ c.loop-at.new.items c.push_reserved.new.self.items c.loop-at.at c.index_mut-line.result.now c.split.new.self c.in-Ok.split
    (first_of (omega (arith, c.loop-at-test.true, c.len-at-end.ensures), search rules, grind (arith, common_steps))) c.loop-at.invariant.same c.loop-at.invariant.made c.loop-at.invariant.off c.index_mut-line.ensures.value c.in-Ok.ensures.same refl c.in-Ok.ensures.new c.push_reserved.ensures.items in
    record { same = more.0; made = more.1; off = more.2; room = c.push_reserved.ensures.capacity ∙ c.loop-at.invariant.room }

pub returns-clause-go_on : goal.returns-clause-go_on
returns-clause-go_on g c = rw c.loop-at.invariant.same (goes-refl c.args.lines.now.items)

pub returns-clause-new : goal.returns-clause-new
returns-clause-new g c =
    splits-all c.args.lines.now.items c.loop-at.new.items c.loop-at.at (first_of (omega (arith, c.loop-at-test.false, c.len-at-end.ensures), search rules, grind (arith, common_steps))) c.loop-at.invariant.made c.loop-at.invariant.off
