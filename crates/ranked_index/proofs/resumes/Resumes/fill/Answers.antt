use Rattle.ranked_index.proofs.Prelude.{◌∙◌, ◌+◌, ◌-◌, ◌≤◌, Some, false, length, ap, arith}
use Rattle.ranked_index.specs.Leaves.{open_leaf, with_leaves, PlainResumes}
use Rattle.ranked_index.specs.Ranks.{leaves_by}
use Rattle.ranked_index.proofs.LeafRows.{is_leaf, kept-again, kept-filled, view-is}
use Rattle.ranked_index.proofs.resumes.Resumes.fill.Goals as goal

pub invariant_of-self : goal.invariant_of-self
invariant_of-self c =
    let t = c.self.inside in
    let count = c.args.to - c.args.from in
    let fits : c.args.from + count ≤ length t.ranking = omega (arith, c.requires.within, ap (λ (r : PlainResumes). length r.order) c.self.view_is) in
    let is = is_leaf (Some c.args.resume) false c.keys.result c.keys.ensures.resume c.keys.ensures.due in
    rw c.fill.ensures (kept-again _ _ _ (kept-filled (leaves_by t.ranking t.tree) t.ranking t.tree c.self.invariant c.args.from count (open_leaf c.args.resume) c.keys.result is fits))

pub returns : goal.returns
returns c =
    let t = c.self.inside in
    let count = c.args.to - c.args.from in
    let fits : c.args.from + count ≤ length t.ranking = omega (arith, c.requires.within, ap (λ (r : PlainResumes). length r.order) c.self.view_is) in
    let is = is_leaf (Some c.args.resume) false c.keys.result c.keys.ensures.resume c.keys.ensures.due in
    rw c.fill.ensures
    (view-is _ _ _ (kept-filled (leaves_by t.ranking t.tree) t.ranking t.tree c.self.invariant c.args.from count (open_leaf c.args.resume) c.keys.result is fits)
    ∙ ap (with_leaves c.args.from count (open_leaf c.args.resume)) c.self.view_is)
