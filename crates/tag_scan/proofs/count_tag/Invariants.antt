use Rattle.std.proofs.Common.{◌≡◌, ◌≤◌, ◌-◌, count_by, ◌==◌, length, take}
use Rattle.tag_scan.proofs.count_tag.Given as goal

abbrev pub invariant-loop-place : goal.invariant-loop-place
invariant-loop-place l = (l.place ≤ length l.tags) × (l.count ≡ count_by (λ other. other == l.tag) (take l.place l.tags))

abbrev pub decreases-loop-place : goal.decreases-loop-place
decreases-loop-place l = length l.tags - l.place
