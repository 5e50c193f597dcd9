use Rattle.ranked_index.proofs.Prelude.{◌≡◌, ◌∙◌, ◌+◌, ◌-◌, length, take, ap, sym, arith}
use Rattle.ranked_index.specs.Leaves.{truncated, PlainResumes}
use Rattle.ranked_index.specs.Ranks.{leaves_by}
use Rattle.ranked_index.proofs.BelowLemmas.{below-last}
use Rattle.ranked_index.proofs.LeafRows.{kept-again, kept-pop, view-is}
use Rattle.ranked_index.proofs.resumes.Resumes.pop.Goals as goal

pub invariant_of-self : goal.invariant_of-self
invariant_of-self c =
    let t = c.self.inside in
    let out = c.pop-rank.ensures in
    let leaves = leaves_by t.ranking t.tree in
    let last = length leaves - 1 in
    let end : last + 1 ≡ length t.ranking = omega (arith, c.self.invariant.long, ap (λ (r : PlainResumes). length r.leaves) c.self.view_is, c.requires) in
    rw (out.numbers, c.remove.ensures) (kept-again _ _ _ (kept-pop leaves t.ranking t.tree c.self.invariant last c.pop-rank.result out.within out.last end))

pub returns : goal.returns
returns c =
    let t = c.self.inside in
    let out = c.pop-rank.ensures in
    let leaves = leaves_by t.ranking t.tree in
    let last = length leaves - 1 in
    let end : last + 1 ≡ length t.ranking = omega (arith, c.self.invariant.long, ap (λ (r : PlainResumes). length r.leaves) c.self.view_is, c.requires) in
    rw (out.numbers, c.remove.ensures)
    (view-is _ _ _ (kept-pop leaves t.ranking t.tree c.self.invariant last c.pop-rank.result out.within out.last end)
    ∙ (λ i. record { leaves = take last leaves; order = sym (below-last last c.pop-rank.result t.ranking c.self.invariant.ranking out.within out.last end) i })
    ∙ ap (λ (r : PlainResumes). truncated (length r.leaves - 1) r) c.self.view_is)
