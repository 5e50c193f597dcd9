use Rattle.ranked_index.proofs.Prelude.{◌≡◌, ◌<◌, ◌∙◌, List, length, map, ap, sym, arith, ltb-true}
use Rattle.std.proofs.lemmas.Grind.{common_steps}
use Rattle.ranked_index.specs.Keys.{least_key}
use Rattle.ranked_index.specs.Tree.{key_in, node_at}
use Rattle.ranked_index.specs.declared.tree.Key.TheVariants.{Resume}
use Rattle.ranked_index.specs.declared.tree.Node.{Node}
use Rattle.ranked_index.proofs.KeyLemmas.{least_key-root}
use Rattle.ranked_index.proofs.tree.LeastTree.least_resume.Goals as goal

pub returns : goal.returns
returns c =
    let t = c.self.inside in
    let found = c.in_ok-root.ensures.lookup in
    let two : 1 < length t.nodes.items = omega (arith, ltb-true 1 (length c.deref.result.now) (sym found.0), ap length c.deref.ensures.value) in
    let root : c.in_ok-root.root.now ≡ node_at t.nodes.items 1 =
    found.1 ∙ grind (arith, common_steps, c.deref.ensures.value) in
    c.key_of.ensures ∙ ap (key_in Resume) root
    ∙ least_key-root Resume t.nodes.items t.first_leaf t.len c.self.invariant (omega (arith, two, c.self.invariant.halves))
    ∙ ap (λ (row : List Node). least_key (map (key_in Resume) row)) c.self.view_is
