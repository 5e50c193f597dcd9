use Rattle.std.proofs.Common.{◌≡◌, ◌-◌, ◌≤◌, ◌++◌, suc, drop, length}
use Rattle.consumer_grain.specs.Activations.{front_of}
use Rattle.consumer_grain.proofs.mailbox.turn_positions.Given as goal

abbrev pub invariant-loop-delivery : goal.invariant-loop-delivery
invariant-loop-delivery l = record {
  bound : length l.positions ≤ l.most;
  rest : l.positions ++ front_of (l.most - length l.positions) l.front.sub (suc l.last) (drop l.delivery-index l.delivery-items) ≡ front_of l.most l.front.sub l.front.position l.deliveries;
}
