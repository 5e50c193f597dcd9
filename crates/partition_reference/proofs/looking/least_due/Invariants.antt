use Rattle.partition_reference.proofs.Prelude.{◌≡◌, drop, sub_lt, least_key, is_due}
use Rattle.partition_reference.proofs.looking.least_due.Given as goal

abbrev pub invariant-loop-index : goal.invariant-loop-index
invariant-loop-index l = l.least ≡ least_key sub_lt l.after (is_due l.p) (drop l.index l.subs)
