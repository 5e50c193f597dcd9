use Rattle.partition_reference.proofs.Prelude.{◌≡◌, ◌∙◌, ◌-◌, ◌<◌, ◌&&◌, not, ap, sym, length, drop, Some, arith, grain_lt, least_key-end, least_key-there, least_key-not, least_key, is_running, is_waiting, Grain}
use Rattle.partition_reference.proofs.looking.least_ready.Goals as goal

pub loop-index-init : goal.loop-index-init
loop-index-init c = least_key-end grain_lt c.args.after.now (λ (st : Grain). is_waiting st && not (is_running st)) c.args.grains.now (length c.args.grains.now) (omega arith)

pub loop-index-preserved-then-is_ready_after : goal.loop-index-preserved-then-is_ready_after
loop-index-preserved-then-is_ready_after c =
    let within : c.loop-index.index - 1 < length c.args.grains.now = omega arith in
    ap Some c.lesser_grain.ensures ∙ least_key-there grain_lt c.args.after.now (λ (st : Grain). is_waiting st && not (is_running st)) c.args.grains.now c.loop-index.index c.index-grains-index.result c.loop-index.least c.loop-index-test.true within c.index-grains-index.is (sym c.is_ready_after.ensures ∙ c.if-is_ready_after.true) c.loop-index.invariant

pub loop-index-preserved : goal.loop-index-preserved
loop-index-preserved c =
    let within : c.loop-index.index - 1 < length c.args.grains.now = omega arith in
    least_key-not grain_lt c.args.after.now (λ (st : Grain). is_waiting st && not (is_running st)) c.args.grains.now c.loop-index.index c.index-grains-index.result c.loop-index.least c.loop-index-test.true within c.index-grains-index.is (sym c.is_ready_after.ensures ∙ c.if-is_ready_after.false) c.loop-index.invariant

pub returns : goal.returns
returns c =
    let first : c.loop-index.index ≡ 0 = omega arith in
    c.loop-index.invariant ∙ ap (λ n. least_key grain_lt c.args.after.now (λ (st : Grain). is_waiting st && not (is_running st)) (drop n c.args.grains.now)) first
