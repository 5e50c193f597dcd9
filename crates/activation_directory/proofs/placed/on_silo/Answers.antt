use Rattle.activation_directory.proofs.Prelude.{◌≡◌, ◌∙◌, ap, Some, drop, arith, eq-eqb, ne_eqb}
use Rattle.activation_directory.specs.Placed.{count_on, least_on}
use Rattle.activation_directory.proofs.Others.{count-others}
use Rattle.activation_directory.proofs.Walk.{counted, passed}
use Rattle.activation_directory.proofs.placed.on_silo.Goals as goal

pub loop-index-preserved-then-place-silo : goal.loop-index-preserved-then-place-silo
loop-index-preserved-then-place-silo c =
    let next = counted c.args.silo c.args.placed.now.entries c.loop-index.index (c.in-Some.grain.now, c.in-Some.place.now) c.loop-index.least c.loop-index.count c.loop-index-test.true c.in-Some.ensures.entry (eq-eqb _ _ c.if-place-silo.true) c.loop-index.invariant.0 c.loop-index.invariant.1 in
    (ap Some c.lesser.ensures ∙ next.0, next.1, omega (arith, c.loop-index.invariant.2, c.loop-index-test.true))

pub loop-index-preserved-else-place-silo : goal.loop-index-preserved-else-place-silo
loop-index-preserved-else-place-silo c =
    let next = passed c.args.silo c.args.placed.now.entries c.loop-index.index (c.in-Some.grain.now, c.in-Some.place.now) c.loop-index.least c.loop-index.count c.loop-index-test.true c.in-Some.ensures.entry (ne_eqb _ _ c.if-place-silo.false) c.loop-index.invariant.0 c.loop-index.invariant.1 in
    (next.0, next.1, omega (arith, c.loop-index.invariant.2, c.loop-index-test.true))

pub returns-clause-others : goal.returns-clause-others
returns-clause-others c =
    let placed = c.args.placed.now.entries in
    let all : c.loop-index.index ≡ 0 = omega arith in
    count-others c.args.silo placed c.loop-index.least c.loop-index.count c.len-index.ensures.unique
    (c.loop-index.invariant.0 ∙ ap (λ n. least_on c.args.silo (drop n placed)) all)
    (c.loop-index.invariant.1 ∙ ap (λ n. count_on c.args.silo (drop n placed)) all)
