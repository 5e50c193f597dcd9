use Rattle.std.proofs.Common.{◌≡◌, ◌+◌, ◌-◌, ◌^◌, ◌/◌, length, arith}
use Rattle.std.proofs.lemmas.Nat.{shr_le}
use Rattle.tag_scan.proofs.MarkLemmas.{Marks-last, absent_to, absent_unmarked, first_marked}
use Rattle.tag_scan.proofs.find_in_rest.Goals as goal

pub returns-then-marks-eq0-clause-absent : goal.returns-then-marks-eq0-clause-absent
returns-then-marks-eq0-clause-absent c =
    let tags = c.args.tags.now in
    let from = c.args.from in
    let marks = Marks-last tags from c.args.tag c.mask_32.result (omega arith) (omega arith) c.requires c.mask_32.ensures.marks in
    let there : from + (length tags - from) ≡ length tags = omega arith in
    absent_to tags from (from + (length tags - from)) (length tags) c.args.tag there
    (absent_unmarked tags from (length tags - from) c.args.tag _ marks c.if-marks-eq0.true)

pub returns-clause-found : goal.returns-clause-found
returns-clause-found c =
    let tags = c.args.tags.now in
    let from = c.args.from in
    let by = from - (length tags - 32) in
    let marks = Marks-last tags from c.args.tag c.mask_32.result (omega arith) (omega arith) c.requires c.mask_32.ensures.marks in
    first_marked tags from from (length tags - from) c.args.tag (c.mask_32.result / 2 ^ by) (omega arith) (omega arith)
    (omega (arith, shr_le c.mask_32.result by, c.mask_32.ensures.small)) (omega (arith, c.if-marks-eq0.false))
    (λ place low high _. absurd (omega arith)) marks
