use Rattle.silo_threads.proofs.Prelude.{◌≡◌, range_with_len}
use Rattle.silo_threads.proofs.opening.enlist_first.Given as goal

abbrev pub invariant-loop-silo : goal.invariant-loop-silo
invariant-loop-silo g l = l.operator ≡ record l.fn.operator { live = range_with_len 0 l.silo }
