use Rattle.std.proofs.Common.{◌==◌, arith}
use Rattle.tag_scan.proofs.CountLemmas.{count_by-take_add, count_by-take_rest}
use Rattle.tag_scan.proofs.count_tag.Goals as goal

pub loop-place-preserved : goal.loop-place-preserved
loop-place-preserved c =
    let more = count_by-take_add (λ other. other == c.args.tag) c.args.tags.now c.loop-place.place 32 in
    (omega arith, omega (arith, more, c.mask_32.ensures.ones))

pub returns : goal.returns
returns c =
    let all = count_by-take_rest (λ other. other == c.args.tag) c.args.tags.now c.loop-place.place (omega arith) in
    omega (arith, all, c.count_one_by_one.ensures)
