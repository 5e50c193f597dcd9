use Rattle.ranked_index.proofs.Prelude.{◌∙◌, map, ap}
use Rattle.ranked_index.specs.Leaves.{least_resume, no_leaf}
use Rattle.ranked_index.specs.Ranks.{leaves_by, resume_key}
use Rattle.ranked_index.specs.Tree.{key_in}
use Rattle.ranked_index.specs.declared.tree.Key.TheVariants.{Resume}
use Rattle.ranked_index.proofs.LeafRows.{resumes-are}
use Rattle.ranked_index.proofs.LeastLemmas.{least_key-ranked}
use Rattle.ranked_index.proofs.resumes.Resumes.least_resume.Goals as goal

pub returns : goal.returns
returns c =
    let t = c.self.inside in
    let are = c.self.invariant in
    let leaves = leaves_by t.ranking t.tree in
    c.least_resume.ensures ∙ least_key-ranked resume_key leaves t.ranking (map (key_in Resume) t.tree) are.long are.ranking no_leaf (resumes-are leaves t.ranking t.tree are) ∙ ap least_resume c.self.view_is
