use Rattle.ranked_index.proofs.Prelude.{◌∙◌, ◌<◌, length, ap, arith}
use Rattle.ranked_index.specs.Leaves.{leaf_with, with_leaf, PlainResumes}
use Rattle.ranked_index.specs.Ranks.{leaves_by}
use Rattle.ranked_index.proofs.LeafRows.{is_leaf, kept-again, kept-set, view-is}
use Rattle.ranked_index.proofs.resumes.Resumes.set.Goals as goal

pub invariant_of-self : goal.invariant_of-self
invariant_of-self c =
    let t = c.self.inside in
    let leaves = leaves_by t.ranking t.tree in
    let within : c.args.number < length leaves = omega (arith, c.requires.within, ap (λ (r : PlainResumes). length r.leaves) c.self.view_is) in
    let is = is_leaf c.args.resume c.args.is_unacknowledged c.keys.result c.keys.ensures.resume c.keys.ensures.due in
    rw c.set.ensures
    (kept-again _ _ _ (kept-set leaves t.ranking t.tree c.self.invariant c.args.number c.rank-rank.result (leaf_with c.args.resume c.args.is_unacknowledged) c.keys.result is within c.rank-rank.ensures.within c.rank-rank.ensures.at))

pub returns : goal.returns
returns c =
    let t = c.self.inside in
    let leaves = leaves_by t.ranking t.tree in
    let within : c.args.number < length leaves = omega (arith, c.requires.within, ap (λ (r : PlainResumes). length r.leaves) c.self.view_is) in
    let is = is_leaf c.args.resume c.args.is_unacknowledged c.keys.result c.keys.ensures.resume c.keys.ensures.due in
    rw c.set.ensures
    (view-is _ _ _ (kept-set leaves t.ranking t.tree c.self.invariant c.args.number c.rank-rank.result (leaf_with c.args.resume c.args.is_unacknowledged) c.keys.result is within c.rank-rank.ensures.within c.rank-rank.ensures.at)
    ∙ ap (with_leaf c.args.number (leaf_with c.args.resume c.args.is_unacknowledged)) c.self.view_is)
