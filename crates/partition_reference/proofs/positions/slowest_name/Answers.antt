use Rattle.partition_reference.proofs.Prelude.{◌≡◌, ◌∙◌, ◌-◌, ◌<◌, ap, sym, length, drop, Some, arith, drop_all}
use Rattle.partition_reference.proofs.SlowestName.{least_at, least_at-there, least_at-not}
use Rattle.partition_reference.proofs.positions.slowest_name.Goals as goal

pub loop-index-init : goal.loop-index-init
loop-index-init c =
    let subs = c.as_slice-subs.result.now in
    sym (ap (least_at c.slowest-resume.result) (drop_all (length subs) subs (omega arith)))

pub loop-index-preserved-then-is_open_at : goal.loop-index-preserved-then-is_open_at
loop-index-preserved-then-is_open_at c =
    let within : c.loop-index.index - 1 < length c.as_slice-subs.result.now = omega arith in
    ap Some c.lesser_name.ensures ∙ least_at-there c.slowest-resume.result c.as_slice-subs.result.now c.loop-index.index c.index-subs-index.result c.loop-index.least c.loop-index-test.true within c.index-subs-index.is (sym c.is_open_at.ensures ∙ c.if-is_open_at.true) c.loop-index.invariant

pub loop-index-preserved : goal.loop-index-preserved
loop-index-preserved c =
    let within : c.loop-index.index - 1 < length c.as_slice-subs.result.now = omega arith in
    least_at-not c.slowest-resume.result c.as_slice-subs.result.now c.loop-index.index c.index-subs-index.result c.loop-index.least c.loop-index-test.true within c.index-subs-index.is (sym c.is_open_at.ensures ∙ c.if-is_open_at.false) c.loop-index.invariant

pub returns : goal.returns
returns c =
    let first : c.loop-index.index ≡ 0 = omega arith in
    c.loop-index.invariant ∙ ap (λ n. least_at c.slowest-resume.result (drop n c.as_slice-subs.result.now)) first ∙ ap (least_at c.slowest-resume.result) c.as_slice-subs.ensures ∙ ap (λ resume. least_at resume c.args.p.now.subs) c.slowest-resume.ensures
