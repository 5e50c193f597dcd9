use Rattle.silo_loops.proofs.Prelude.{◌≡◌, List, [], arith, refl, rules, subst, sym, common_steps}
use Rattle.silo_loops.specs.Lines.{LineView}
use Rattle.silo_loops.specs.Fronts.{AllZipFront}
use Rattle.silo_loops.specs.Silos.{HasTakenIn}
use Rattle.silo_loops.proofs.Going.{goes-refl, join-next, joining-more, silents-refl}
use Rattle.silo_loops.proofs.crew.lines.join_front.Goals as goal

pub loop-other-init : goal.loop-other-init
loop-other-init g c = record { alike = c.requires; on = goes-refl _; silent = silents-refl _; joined = refl; takes = λ ms on front. front }

pub index_mut-line-requires : goal.index_mut-line-requires
index_mut-line-requires g c =
    let next = join-next c.loop-other.lines.items c.loop-other.others.items c.pop.new.self.items c.len.result c.in-Some.other c.in-Some.other c.in-Some.ensures.items (first_of (omega (arith, c.len.ensures), search rules, grind (arith, common_steps))) c.loop-other.invariant.alike in
    let less = next.0 in first_of (omega (arith, less), search (rules, less), grind (arith, common_steps, less))

pub join-requires-after_bounds : goal.join-requires-after_bounds
join-requires-after_bounds g c κs within =
    let next = join-next c.loop-other.lines.items c.loop-other.others.items c.pop.new.self.items c.len.result c.index_mut-line.result.now c.in-Some.other c.in-Some.ensures.items (first_of (omega (arith, c.len.ensures), search rules, grind (arith, common_steps))) c.loop-other.invariant.alike in
    next.1 c.index_mut-line.ensures.value

pub loop-other-preserved : goal.loop-other-preserved
loop-other-preserved g c =
    joining-more c.args.lines.now.items c.args.others.items c.loop-other.lines.items c.loop-other.others.items c.pop.new.self.items c.len.result c.index_mut-line.result.now c.in-Some.other c.join.new.self c.in-Some.ensures.items
    (first_of (omega (arith, c.len.ensures), search rules, grind (arith, common_steps))) c.index_mut-line.ensures.value c.join.ensures.joined c.join.ensures.agree c.loop-other.invariant

pub returns-clause-taken : goal.returns-clause-taken
returns-clause-taken g c =
    let none : c.loop-other.others.items ≡ [] = first_of (search rules, grind (arith, common_steps)) in
    c.loop-other.invariant.takes _ (goes-refl _) (subst (λ (es : List LineView). AllZipFront HasTakenIn c.loop-other.lines.items es) (sym none) tt)
