use Rattle.partition_reference.proofs.Prelude.{◌≡◌, ◌<◌, drop, filter, length, slice_get, AllByRecursion, same_token, token_at, handled_at}
use Rattle.partition_reference.proofs.acknowledging.first_handled.Given as goal

abbrev pub invariant-loop-position : goal.invariant-loop-position
invariant-loop-position l = record {
  none : slice_get (filter (λ position. same_token (token_at l.p position) l.token) (drop l.position-index l.position-items)) 0 ≡ slice_get (handled_at l.p l.sub l.token) 0;
  rest : AllByRecursion (λ position. position < length l.p.log) (drop l.position-index l.position-items);
}
