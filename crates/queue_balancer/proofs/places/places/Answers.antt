use Rattle.std.proofs.Common.{◌≡◌, ◌*◌, ◌%◌, ◌++◌, ◌∙◌, sym, ap, arith, ◌≤◌, length, take, length-append}
use Rattle.std.proofs.lemmas.List.{length-take-le}
use Rattle.queue_balancer.specs.Balance.{count, floor}
use Rattle.queue_balancer.proofs.CountLemmas.{count-append}
use Rattle.queue_balancer.proofs.PlacesLemmas.{places_made, length-order_of}
use Rattle.queue_balancer.proofs.places.places.Goals as goal

pub loop-round-preserved : goal.loop-round-preserved
loop-round-preserved c =
    let before = c.loop-round.places.items in
    let live = c.args.live.now in
    let more : c.extend_from_slice.new.self.items ≡ before ++ live = c.in_ok-extend_from_slice.ensures.items in record {
      long = omega (arith, ap length more, length-append before live, c.loop-round.invariant.long);
      counts = λ silo. omega (arith, ap (count silo) more, count-append silo before live, c.loop-round.invariant.counts silo);
    }

pub slice_bounds-extend_from_slice-end : goal.slice_bounds-extend_from_slice-end
slice_bounds-extend_from_slice-end c =
    let old = c.args.old.now in
    let live = c.args.live.now in
    let within : length old % length live ≤ length c.deref.result.now =
    omega (
      arith,
      c.requires.some,
      ap length c.deref.ensures.value,
      ap length c.in_ok-order.ensures,
      length-order_of (floor old live) old live,
    ) in
    sym (length-take-le (length old % length live) c.deref.result.now within)

pub returns : goal.returns
returns c =
    let old = c.args.old.now in
    let live = c.args.live.now in
    let rounds = c.loop-round.places.items in
    let new = c.extend_from_slice-2.new.self.items in
    let all : c.loop-round._round ≡ floor old live = omega arith in
    let part : new ≡ rounds ++ take (length old % length live) c.deref.result.now =
    c.in_ok-extend_from_slice-2.ensures.items in
    places_made old live rounds new (record {
      some = c.requires.some;
      apart = c.requires.no_doubles;
      length_rounds = c.loop-round.invariant.long ∙ ap (λ n. n * length live) all;
      count_rounds = λ silo. c.loop-round.invariant.counts silo ∙ ap (λ n. n * count silo live) all;
      made = part ∙ ap (λ order. rounds ++ take (length old % length live) order) (c.deref.ensures.value ∙ c.in_ok-order.ensures);
    })
