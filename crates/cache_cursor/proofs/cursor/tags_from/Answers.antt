use Rattle.cache_cursor.proofs.Prelude.{◌∙◌, true, arith, length-set}
use Rattle.cache_cursor.proofs.SeekLemmas.{marked-all, marked-more}
use Rattle.cache_cursor.proofs.cursor.tags_from.Goals as goal

pub loop-position-preserved : goal.loop-position-preserved
loop-position-preserved c =
    let here = c.loop-position.invariant in (
      length-set c.loop-position.marks c.tag.result true ∙ here.0,
      marked-more c.args.cache.now c.args.from c.loop-position.position c.tag.result c.get.result.now c.loop-position.marks (omega (arith, here.0, c.tag.type_inv)) c.get.ensures c.tag.ensures here.1,
    )

pub returns : goal.returns
returns c = marked-all c.args.cache.now c.args.from c.loop-position.position c.loop-position.marks c.requires (omega (arith, c.high-position-end.ensures)) c.loop-position.invariant.1
