use Rattle.ranked_index.proofs.Prelude.{◌+◌, arith}
use Rattle.ranked_index.proofs.Doubled.{doubled-ge}
use Rattle.ranked_index.proofs.tree.first_leaf_at_most.Goals as goal

pub first_below-requires-clause-within : goal.first_below-requires-clause-within
first_below-requires-clause-within c =
    let here = c.in_ok-at.ensures in omega (arith, here.within, doubled-ge here.height (c.in_ok-at.at + 1))
