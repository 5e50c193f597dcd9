use Rattle.std.proofs.lemmas.Bool.{eqb-true}
use Rattle.tag_scan.proofs.MarkLemmas.{absent_in_four}
use Rattle.tag_scan.proofs.is_absent_in_stretch.Goals as goal

pub returns : goal.returns
returns c none =
    absent_in_four c.args.tags.now c.args.start c.args.tag
    c.mask_32-first.result c.mask_32-second.result c.mask_32-third.result c.mask_32-last.result
    c.mask_32-first.ensures.marks c.mask_32-second.ensures.marks c.mask_32-third.ensures.marks c.mask_32-last.ensures.marks
    (eqb-true _ _ none)
