use Rattle.partition_reference.proofs.Prelude.{◌≡◌, ◌∙◌, ◌-◌, ◌<◌, ◌&&◌, None, is_some, ap, sym, length, drop, Some, arith, sub_lt, least_key-end, least_key-there, least_key-not, of-all, least_key, next_position, Subscription}
use Rattle.partition_reference.proofs.looking.least_deliverable.Goals as goal

pub loop-index-init : goal.loop-index-init
loop-index-init c = least_key-end sub_lt None (λ (r : Subscription). r.is_open && is_some (next_position c.args.p.now r)) c.as_slice-subs.result.now (length c.as_slice-subs.result.now) (omega arith)

pub loop-index-preserved-then-is_deliverable : goal.loop-index-preserved-then-is_deliverable
loop-index-preserved-then-is_deliverable c =
    let within : c.loop-index.index - 1 < length c.as_slice-subs.result.now = omega arith in
    ap Some c.lesser_name.ensures ∙ least_key-there sub_lt None (λ (r : Subscription). r.is_open && is_some (next_position c.args.p.now r)) c.as_slice-subs.result.now c.loop-index.index c.index-subs-index.result c.loop-index.least c.loop-index-test.true within c.index-subs-index.is (of-all _ _ (sym c.is_deliverable.ensures ∙ c.if-is_deliverable.true)) c.loop-index.invariant

pub loop-index-preserved : goal.loop-index-preserved
loop-index-preserved c =
    let within : c.loop-index.index - 1 < length c.as_slice-subs.result.now = omega arith in
    least_key-not sub_lt None (λ (r : Subscription). r.is_open && is_some (next_position c.args.p.now r)) c.as_slice-subs.result.now c.loop-index.index c.index-subs-index.result c.loop-index.least c.loop-index-test.true within c.index-subs-index.is (of-all _ _ (sym c.is_deliverable.ensures ∙ c.if-is_deliverable.false)) c.loop-index.invariant

pub returns : goal.returns
returns c =
    let first : c.loop-index.index ≡ 0 = omega arith in
    c.loop-index.invariant ∙ ap (λ n. least_key sub_lt None (λ (r : Subscription). r.is_open && is_some (next_position c.args.p.now r)) (drop n c.as_slice-subs.result.now)) first
    ∙ ap (least_key sub_lt None (λ (r : Subscription). r.is_open && is_some (next_position c.args.p.now r))) c.as_slice-subs.ensures
