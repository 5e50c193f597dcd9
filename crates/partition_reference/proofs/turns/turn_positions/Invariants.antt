use Rattle.partition_reference.proofs.Prelude.{◌≡◌, ◌-◌, ◌≤◌, ◌++◌, suc, drop, length, front_of}
use Rattle.partition_reference.proofs.turns.turn_positions.Given as goal

abbrev pub invariant-loop-delivery : goal.invariant-loop-delivery
invariant-loop-delivery l = record {
  bound : length l.positions ≤ l.most;
  rest : l.positions ++ front_of (l.most - length l.positions) l.front.sub (suc l.last) (drop l.delivery-index l.delivery-items) ≡ front_of l.most l.front.sub l.front.position l.deliveries;
}
