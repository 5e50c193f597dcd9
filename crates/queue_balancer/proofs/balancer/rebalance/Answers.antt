use Rattle.std.proofs.Common.{◌≡◌, ◌∙◌, sym, ap, subst, arith, length, drop}
use Rattle.std.proofs.lemmas.List.{take_at}
use Rattle.queue_balancer.specs.Balance.{IsBalanced}
use Rattle.queue_balancer.specs.Places.{KeepsOld}
use Rattle.queue_balancer.proofs.BalanceLemmas.{balanced_from}
use Rattle.queue_balancer.proofs.balancer.rebalance.Goals as goal

pub returns-clause-balanced : goal.returns-clause-balanced
returns-clause-balanced c =
    let start = c.in_ok-places.places.items in
    let kept : KeepsOld c.args.old.now start c.keep.new.places =
    subst (λ places. KeepsOld c.args.old.now places c.keep.new.places) c.as_mut_slice.ensures.value c.keep.ensures in
    let long : length c.keep.new.places ≡ c.in_ok-places.places.len =
    omega (arith, kept.whole, c.in_ok-places.ensures.whole, c.as_mut_slice.ensures.len, ap length c.as_mut_slice.ensures.value) in
    let new : c.of.result ≡ c.keep.new.places = c.of.ensures ∙ take_at c.keep.new.places (drop (length c.keep.new.places) start) c.in_ok-places.places.len long in
    subst (λ new. IsBalanced c.args.old.now c.args.live.now new) (sym new)
    (balanced_from c.args.old.now c.args.live.now start c.keep.new.places c.in_ok-places.ensures kept)
