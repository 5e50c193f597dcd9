use Rattle.std.proofs.Common.{arith, ◌+◌}
use Rattle.tag_scan.proofs.MarkLemmas.{absent_then, absent_unmarked, first_marked}
use Rattle.tag_scan.proofs.find_tag.Goals as goal

pub returns-then-marks-ne0-clause-found : goal.returns-then-marks-ne0-clause-found
returns-then-marks-ne0-clause-found c =
    first_marked c.args.tags.now c.args.from c.loop-place.place 32 c.args.tag c.mask_32-marks.result (omega arith) (omega arith)
    (omega (arith, c.mask_32-marks.ensures.small)) (omega (arith, c.if-marks-ne0.true)) c.loop-place.invariant.1 c.mask_32-marks.ensures.marks

pub loop-place-preserved : goal.loop-place-preserved
loop-place-preserved c = (
  omega arith,
  absent_then c.args.tags.now c.args.from c.loop-place.place (c.loop-place.place + 32) c.args.tag c.loop-place.invariant.1
      (absent_unmarked c.args.tags.now c.loop-place.place 32 c.args.tag c.mask_32-marks.result c.mask_32-marks.ensures.marks c.if-marks-ne0.false),
)
