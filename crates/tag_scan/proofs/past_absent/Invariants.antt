use Rattle.std.proofs.Common.{length, ◌-◌, ◌≤◌}
use Rattle.tag_scan.specs.Tags.{IsAbsentBetween}
use Rattle.tag_scan.proofs.past_absent.Given as goal

abbrev pub invariant-loop-place : goal.invariant-loop-place
invariant-loop-place l = (l.from ≤ l.place) × IsAbsentBetween l.tags l.from l.place l.tag

abbrev pub decreases-loop-place : goal.decreases-loop-place
decreases-loop-place l = length l.tags - l.place
