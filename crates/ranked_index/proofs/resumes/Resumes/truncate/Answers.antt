use Rattle.ranked_index.proofs.Prelude.{◌∙◌, ◌-◌, length, ap, sym, arith}
use Rattle.ranked_index.specs.Leaves.{truncated}
use Rattle.ranked_index.proofs.BelowLemmas.{truncated-all, truncated-twice}
use Rattle.ranked_index.proofs.resumes.Resumes.truncate.Goals as goal

pub loop-self-preserved : goal.loop-self-preserved
loop-self-preserved c =
    let r = c.loop-self.self in
    ap (truncated c.args.len) c.pop.ensures
    ∙ truncated-twice c.args.len (length r.leaves - 1) r (omega (arith, c.loop-self-test.true, c.len.ensures.len)) ∙ c.loop-self.invariant

pub returns : goal.returns
returns c =
    sym (truncated-all c.args.len c.loop-self.self c.len.ensures.ranking c.len.ensures.order (omega (arith, c.loop-self-test.false, c.len.ensures.len))) ∙ c.loop-self.invariant
