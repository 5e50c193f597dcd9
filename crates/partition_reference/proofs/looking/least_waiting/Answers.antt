use Rattle.partition_reference.proofs.Prelude.{◌≡◌, ◌∙◌, ◌-◌, ◌<◌, None, ap, sym, length, drop, Some, arith, grain_lt, least_key-end, least_key-there, least_key-not, of-all, least_key, is_waiting}
use Rattle.partition_reference.proofs.looking.least_waiting.Goals as goal

pub loop-index-init : goal.loop-index-init
loop-index-init c = least_key-end grain_lt None is_waiting c.args.grains.now (length c.args.grains.now) (omega arith)

pub loop-index-preserved-then-is_waiting : goal.loop-index-preserved-then-is_waiting
loop-index-preserved-then-is_waiting c =
    let within : c.loop-index.index - 1 < length c.args.grains.now = omega arith in
    ap Some c.lesser_grain.ensures ∙ least_key-there grain_lt None is_waiting c.args.grains.now c.loop-index.index c.index-grains-index.result c.loop-index.least c.loop-index-test.true within c.index-grains-index.is (of-all _ _ (sym c.is_waiting.ensures ∙ c.if-is_waiting.true)) c.loop-index.invariant

pub loop-index-preserved : goal.loop-index-preserved
loop-index-preserved c =
    let within : c.loop-index.index - 1 < length c.args.grains.now = omega arith in
    least_key-not grain_lt None is_waiting c.args.grains.now c.loop-index.index c.index-grains-index.result c.loop-index.least c.loop-index-test.true within c.index-grains-index.is (of-all _ _ (sym c.is_waiting.ensures ∙ c.if-is_waiting.false)) c.loop-index.invariant

pub returns : goal.returns
returns c =
    let first : c.loop-index.index ≡ 0 = omega arith in
    c.loop-index.invariant ∙ ap (λ n. least_key grain_lt None is_waiting (drop n c.args.grains.now)) first
