use Rattle.tag_scan.proofs.MarkLemmas.{Marks-halves}
use Rattle.tag_scan.proofs.mask.Goals as goal

pub returns : goal.returns
returns c =
    Marks-halves c.args.tags.now c.args.tag c.mask_32-low.result c.mask_32-high.result
    c.mask_32-low.ensures.small c.mask_32-high.ensures.small c.mask_32-low.ensures.marks c.mask_32-high.ensures.marks
