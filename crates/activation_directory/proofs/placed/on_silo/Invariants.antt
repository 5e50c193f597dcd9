use Rattle.activation_directory.proofs.Prelude.{◌≡◌, ◌+◌, ◌≤◌, drop, length}
use Rattle.activation_directory.specs.Placed.{count_on, least_on}
use Rattle.activation_directory.proofs.placed.on_silo.Given as goal

-- the least and the number of the entries that were seen, the last first
abbrev pub invariant-loop-index : goal.invariant-loop-index
invariant-loop-index l =
    (l.least ≡ least_on l.silo (drop l.index l.placed.entries)) × (l.count ≡ count_on l.silo (drop l.index l.placed.entries))
    × (l.count + l.index ≤ length l.placed.entries)
