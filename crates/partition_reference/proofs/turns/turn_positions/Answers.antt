use Rattle.partition_reference.proofs.Prelude.{◌<◌, ◌-◌, ◌+◌, ◌++◌, length, suc, take, drop, sym, ap, ◌∙◌, arith, length_push, same_sub, front_of}
use Rattle.stream_ident.proofs.RisingFronts.{front-start, front-more, front-full, front-end, front-stop}
use Rattle.stream_ident.proofs.SameValues.{same_sub-refl}
use Rattle.stream_model.specs.declared.plain.Delivery.{Delivery}
use Rattle.partition_reference.proofs.turns.turn_positions.Goals as goal
use Rattle.partition_reference.proofs.turns.turn_positions.Goals.{then-len-most-via-then-len-most, then-len-most-via-else-len-most+then-not-goes_on}

pub loop-delivery-init : goal.loop-delivery-init
loop-delivery-init c = record {
  bound = omega (arith, ap length c.of-positions.ensures);
  rest = front-start same_sub (λ (d : Delivery). d.sub) (λ (d : Delivery). d.position) same_sub-refl c.args.most c.args.front.now c.args.deliveries.now c.of-positions.result c.requires.some c.requires.first c.of-positions.ensures;
}

pub returns-then-len-most : goal.returns-then-len-most
returns-then-len-most c =
    let l = c.loop-delivery in
    elim c.then-len-most.branch [
      | then-len-most-via-then-len-most w ↦ sym (front-full same_sub (λ (d : Delivery). d.sub) (λ (d : Delivery). d.position) l.positions c.args.most _ _ _ (omega arith)) ∙ l.invariant.rest
      | then-len-most-via-else-len-most+then-not-goes_on w ↦ sym (front-stop same_sub (λ (d : Delivery). d.sub) (λ (d : Delivery). d.position) l.positions _ _ _ _ l.delivery-index c.delivery-item.result (omega arith) c.delivery-item.is (sym w.goes_on.ensures ∙ w.if-not-goes_on.true)) ∙ l.invariant.rest
    ]

pub loop-delivery-preserved : goal.loop-delivery-preserved
loop-delivery-preserved c =
    let l = c.loop-delivery in
    let d = c.delivery-item.result in
    let room : length l.positions < c.args.most = omega arith in
    let more = front-more same_sub (λ (d : Delivery). d.sub) (λ (d : Delivery). d.position) l.positions c.args.most c.args.front.now.sub (suc l.last) _ l.delivery-index d c.loop-delivery-test.true c.delivery-item.is room (sym c.goes_on.ensures ∙ c.if-not-goes_on.false) in
    record {
      bound = omega (arith, ap length c.push.ensures, length_push l.positions d.position);
      rest = ap (λ xs. xs ++ front_of (c.args.most - length xs) c.args.front.now.sub (suc d.position) (drop (l.delivery-index + 1) (take (length c.args.deliveries.now - 1) (drop 1 c.args.deliveries.now)))) c.push.ensures ∙ (more ∙ l.invariant.rest);
    }

pub returns : goal.returns
returns c = sym (front-end same_sub (λ (d : Delivery). d.sub) (λ (d : Delivery). d.position) _ _ _ _ _ c.loop-delivery.delivery-index (omega arith)) ∙ c.loop-delivery.invariant.rest
