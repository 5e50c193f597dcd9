use Rattle.partition_reference.proofs.Prelude.{◌≡◌, ◌+◌, drop, not, token_lt, first_at}
use Rattle.partition_reference.proofs.positions.lower_bound.Given as goal

abbrev pub invariant-loop-index : goal.invariant-loop-index
invariant-loop-index l =
    first_at (λ event. not (token_lt event.token l.token)) (l.p.low + l.index) (drop l.index l.cached)
    ≡ first_at (λ event. not (token_lt event.token l.token)) l.p.low l.cached
