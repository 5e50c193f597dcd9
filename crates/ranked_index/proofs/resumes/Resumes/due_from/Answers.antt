use Rattle.ranked_index.proofs.Prelude.{◌∙◌, Some, ap, option_map, slice_index}
use Rattle.ranked_index.specs.Leaves.{due_from}
use Rattle.ranked_index.specs.Ranks.{leaves_by}
use Rattle.ranked_index.proofs.LeafRows.{due-ranked}
use Rattle.ranked_index.proofs.resumes.Resumes.due_from.Goals as goal

pub returns-in_err-rank-clause-due : goal.returns-in_err-rank-clause-due
returns-in_err-rank-clause-due c =
    let t = c.self.inside in
    c.from_residual.ensures ∙ ap (option_map (slice_index t.ranking)) c.in_err-rank.ensures.place
    ∙ due-ranked (leaves_by t.ranking t.tree) t.ranking t.tree c.args.rank c.args.high c.self.invariant ∙ ap (due_from c.args.rank c.args.high) c.self.view_is

pub returns-clause-due : goal.returns-clause-due
returns-clause-due c =
    let t = c.self.inside in
    ap Some c.number.ensures.is ∙ ap (option_map (slice_index t.ranking)) c.in_ok-rank.ensures.place
    ∙ due-ranked (leaves_by t.ranking t.tree) t.ranking t.tree c.args.rank c.args.high c.self.invariant ∙ ap (due_from c.args.rank c.args.high) c.self.view_is
