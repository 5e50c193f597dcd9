use Rattle.partition_reference.proofs.Prelude.{◌∙◌, ◌+◌, ap, sym, drop, Some, arith, at_drop_all, least_or, resumes_of}
use Rattle.partition_reference.proofs.SlowestResume.{least_after, after-open, after-closed, after-all, after-item}
use Rattle.partition_reference.proofs.positions.slowest.Goals as goal
use Rattle.partition_reference.proofs.positions.slowest.Goals.{then-sub, else-sub}

pub loop-sub-init : goal.loop-sub-init
loop-sub-init c = ap (λ subs. least_or c.args.p.now.high (resumes_of subs)) c.as_slice-sub-items.ensures

pub loop-sub-preserved : goal.loop-sub-preserved
loop-sub-preserved c =
    let items = c.as_slice-sub-items.result.now in
    let high = c.args.p.now.high in
    let entry = c.loop-sub-item.result in
    let rest = drop (c.loop-sub.sub-index + 1) items in
    let split = sym (after-item high c.loop-sub.slowest items c.loop-sub.sub-index entry c.loop-sub-test.true c.loop-sub-item.is) ∙ c.loop-sub.invariant in
    elim c.if-sub.branch [
      | then-sub w ↦ ap (λ least. least_after high least (resumes_of rest)) (w.slowest-is ∙ ap Some w.lesser.ensures) ∙ sym (after-open high c.loop-sub.slowest entry.0 entry.1 rest w.if-sub.true) ∙ split
      | else-sub w ↦ ap (λ least. least_after high least (resumes_of rest)) w.slowest-is ∙ sym (after-closed high c.loop-sub.slowest entry.0 entry.1 rest w.if-sub.false) ∙ split
    ]

pub returns : goal.returns
returns c =
    let items = c.as_slice-sub-items.result.now in
    let high = c.args.p.now.high in
    c.unwrap_or.ensures ∙ sym (after-all high c.loop-sub.slowest) ∙ sym (at_drop_all (λ rest. least_after high c.loop-sub.slowest (resumes_of rest)) items c.loop-sub.sub-index (omega arith)) ∙ c.loop-sub.invariant
