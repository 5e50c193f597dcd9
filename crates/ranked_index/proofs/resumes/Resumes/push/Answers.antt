use Rattle.ranked_index.proofs.Prelude.{◌≡◌, ◌∙◌, ◌≤◌, List, Some, false, length, ap, arith, remove}
use Rattle.ranked_index.specs.declared.tree.Node.{Node}
use Rattle.ranked_index.proofs.RankLemmas.{remove-insert}
use Rattle.ranked_index.specs.Leaves.{open_leaf, pushed, PlainResumes}
use Rattle.ranked_index.specs.Ranks.{leaves_by}
use Rattle.ranked_index.proofs.LeafRows.{is_leaf, kept-again, kept-push, view-is}
use Rattle.ranked_index.proofs.resumes.Resumes.push.Goals as goal

pub invariant_of-self-in-Err : goal.invariant_of-self-in-Err
invariant_of-self-in-Err c =
    let row = c.self.inside.tree in
    let fits : c.args.rank ≤ length row = omega (arith, c.requires.within, ap (λ (r : PlainResumes). length r.order) c.self.view_is, c.self.invariant.kept.long) in
    let back : c.remove.new.self ≡ row = c.remove.ensures ∙ ap (λ (row : List Node). remove row c.args.rank) c.in_ok-insert.ensures ∙ remove-insert row c.args.rank c.keys.result fits in
    rw (c.in-Err.ensures.numbers, back) c.self.invariant

pub returns-in-Err : goal.returns-in-Err
returns-in-Err c =
    let row = c.self.inside.tree in
    let fits : c.args.rank ≤ length row = omega (arith, c.requires.within, ap (λ (r : PlainResumes). length r.order) c.self.view_is, c.self.invariant.kept.long) in
    let back : c.remove.new.self ≡ row = c.remove.ensures ∙ ap (λ (row : List Node). remove row c.args.rank) c.in_ok-insert.ensures ∙ remove-insert row c.args.rank c.keys.result fits in
    rw (c.in-Err.ensures.numbers, back) c.self.view_is

pub invariant_of-self-in_default : goal.invariant_of-self-in_default
invariant_of-self-in_default c =
    let t = c.self.inside in
    let fits : c.args.rank ≤ length t.ranking = omega (arith, c.requires.within, ap (λ (r : PlainResumes). length r.order) c.self.view_is) in
    let is = is_leaf (Some c.args.resume) false c.keys.result c.keys.ensures.resume c.keys.ensures.due in
    rw (c.in_ok-insert.ensures, c.in_default.ensures.numbers)
    (kept-again _ _ _ (kept-push (leaves_by t.ranking t.tree) t.ranking t.tree c.self.invariant c.args.rank (open_leaf c.args.resume) c.keys.result is fits))

pub returns : goal.returns
returns c =
    let t = c.self.inside in
    let fits : c.args.rank ≤ length t.ranking = omega (arith, c.requires.within, ap (λ (r : PlainResumes). length r.order) c.self.view_is) in
    let is = is_leaf (Some c.args.resume) false c.keys.result c.keys.ensures.resume c.keys.ensures.due in
    rw (c.in_ok-insert.ensures, c.in_default.ensures.numbers)
    (view-is _ _ _ (kept-push (leaves_by t.ranking t.tree) t.ranking t.tree c.self.invariant c.args.rank (open_leaf c.args.resume) c.keys.result is fits)
    ∙ ap (pushed c.args.rank (open_leaf c.args.resume)) c.self.view_is)
