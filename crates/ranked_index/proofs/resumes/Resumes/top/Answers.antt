use Rattle.ranked_index.proofs.Prelude.{◌∙◌, Some, ap, option_map, slice_index}
use Rattle.ranked_index.specs.Leaves.{top}
use Rattle.ranked_index.specs.Ranks.{leaves_by}
use Rattle.ranked_index.proofs.LeafRows.{top-ranked}
use Rattle.ranked_index.proofs.resumes.Resumes.top.Goals as goal

pub returns-in_err-rank-clause-top : goal.returns-in_err-rank-clause-top
returns-in_err-rank-clause-top c =
    let t = c.self.inside in
    c.from_residual.ensures ∙ ap (option_map (slice_index t.ranking)) c.in_err-rank.ensures.least
    ∙ top-ranked (leaves_by t.ranking t.tree) t.ranking t.tree c.self.invariant ∙ ap top c.self.view_is

pub returns-clause-top : goal.returns-clause-top
returns-clause-top c =
    let t = c.self.inside in
    ap Some c.number.ensures.is ∙ ap (option_map (slice_index t.ranking)) c.in_ok-rank.ensures.least
    ∙ top-ranked (leaves_by t.ranking t.tree) t.ranking t.tree c.self.invariant ∙ ap top c.self.view_is
