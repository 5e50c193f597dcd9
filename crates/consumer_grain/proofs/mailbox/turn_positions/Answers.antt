use Rattle.std.proofs.Common.{◌<◌, ◌-◌, ◌+◌, ◌++◌, length, suc, get_or, take, drop, sym, ap, ◌∙◌, ◌==◌, arith, refl}
use Rattle.std.proofs.lemmas.Bool.{eq-eqb}
use Rattle.std.proofs.lemmas.List.{get_or_default, length_push}
use Rattle.stream_ident.proofs.RisingFronts.{front-start, front-more, front-full, front-end, front-stop}
use Rattle.consumer_grain.specs.declared.mailbox.Delivery.{Delivery}
use Rattle.consumer_grain.specs.Activations.{front_of}
use Rattle.consumer_grain.proofs.FrontLemmas.{no_delivery}
use Rattle.consumer_grain.proofs.mailbox.turn_positions.Goals as goal
use Rattle.consumer_grain.proofs.mailbox.turn_positions.Goals.{then-len-most-via-then-len-most, then-len-most-via-else-len-most+then-not-goes_on}

pub loop-delivery-init : goal.loop-delivery-init
loop-delivery-init c = record {
  bound = omega (arith, ap length c.of-positions.ensures);
  rest = front-start (λ a b. a == b) (λ (d : Delivery). d.sub) (λ (d : Delivery). d.position) (λ s. eq-eqb s s refl) c.args.most c.args.front c.args.deliveries.now c.of-positions.result c.requires.some c.requires.first c.of-positions.ensures;
}

pub returns-then-len-most : goal.returns-then-len-most
returns-then-len-most c =
    let l = c.loop-delivery in
    let rest = take (length c.args.deliveries.now - 1) (drop 1 c.args.deliveries.now) in
    let d = get_or rest l.delivery-index no_delivery in
    elim c.then-len-most.branch [
      | then-len-most-via-then-len-most w ↦ sym (front-full (λ a b. a == b) (λ (d : Delivery). d.sub) (λ (d : Delivery). d.position) l.positions c.args.most _ _ _ (omega arith)) ∙ l.invariant.rest
      | then-len-most-via-else-len-most+then-not-goes_on w ↦ sym (front-stop (λ a b. a == b) (λ (d : Delivery). d.sub) (λ (d : Delivery). d.position) l.positions _ _ _ rest l.delivery-index d c.loop-delivery-test.true (get_or_default rest l.delivery-index no_delivery d c.loop-delivery-test.true) (sym w.goes_on.ensures ∙ w.if-not-goes_on.true)) ∙ l.invariant.rest
    ]

pub loop-delivery-preserved : goal.loop-delivery-preserved
loop-delivery-preserved c =
    let l = c.loop-delivery in
    let rest = take (length c.args.deliveries.now - 1) (drop 1 c.args.deliveries.now) in
    let d = get_or rest l.delivery-index no_delivery in
    let room : length l.positions < c.args.most = omega arith in
    let read = get_or_default rest l.delivery-index no_delivery d c.loop-delivery-test.true in
    let more = front-more (λ a b. a == b) (λ (d : Delivery). d.sub) (λ (d : Delivery). d.position) l.positions c.args.most c.args.front.sub (suc l.last) rest l.delivery-index d c.loop-delivery-test.true read room (sym c.goes_on.ensures ∙ c.if-not-goes_on.false) in
    record {
      bound = omega (arith, ap length c.push.ensures, length_push l.positions d.position);
      rest = ap (λ xs. xs ++ front_of (c.args.most - length xs) c.args.front.sub (suc d.position) (drop (l.delivery-index + 1) rest)) c.push.ensures ∙ (more ∙ l.invariant.rest);
    }

pub returns : goal.returns
returns c = sym (front-end (λ a b. a == b) (λ (d : Delivery). d.sub) (λ (d : Delivery). d.position) _ _ _ _ _ c.loop-delivery.delivery-index (omega arith)) ∙ c.loop-delivery.invariant.rest
