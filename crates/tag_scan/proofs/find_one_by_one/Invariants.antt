use Rattle.tag_scan.specs.Tags.{IsAbsentBetween}
use Rattle.tag_scan.proofs.find_one_by_one.Given as goal

abbrev pub invariant-loop-place : goal.invariant-loop-place
invariant-loop-place l = IsAbsentBetween l.tags l.from l.place l.tag
