use Rattle.grain_table.proofs.Prelude.{◌≡◌, ◌≤◌, length}
use Rattle.grain_table.specs.Grains.{is_waiting}
use Rattle.grain_table.proofs.TableLemmas.{least_from}
use Rattle.grain_table.proofs.table.GrainTable.least_waiting.Given as goal

-- the least of those from the number on is known
abbrev pub invariant-loop-number : goal.invariant-loop-number
invariant-loop-number l = (l.number ≤ length l.entries) × (l.least ≡ least_from is_waiting l.number l.entries)

abbrev pub decreases-loop-number : goal.decreases-loop-number
decreases-loop-number l = l.number
