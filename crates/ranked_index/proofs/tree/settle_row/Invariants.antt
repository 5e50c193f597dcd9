use Rattle.ranked_index.proofs.Prelude.{◌≡◌, ℕ, ◌<◌, drop}
use Rattle.ranked_index.proofs.SettleLemmas.{IsSettled}
use Rattle.ranked_index.proofs.tree.settle_row.Given as goal

abbrev pub invariant-loop-at : goal.invariant-loop-at
invariant-loop-at l =
    IsSettled l.first l.last l.at l.nodes × ((place : ℕ) → l.last < place → drop place l.nodes ≡ drop place l.initial.nodes)
