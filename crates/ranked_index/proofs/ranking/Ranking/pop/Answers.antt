use Rattle.ranked_index.proofs.Prelude.{◌≡◌, ◌∙◌, ℕ, ◌+◌, ◌-◌, ◌<◌, List, length, take, drop, ap, arith, get_or_default, take_at, length-take-le, remove, slice_index, slice_index_or}
use Rattle.ranked_index.specs.Ranking.{AreRanks}
use Rattle.ranked_index.proofs.RankLemmas.{ranking_of, ranking-remove, ranks-remove}
use Rattle.ranked_index.proofs.ranking.Ranking.pop.Goals as goal

-- the last number stands at its rank
stands : (order ranks : List ℕ) (last rank : ℕ) → AreRanks order ranks → last + 1 ≡ length order → rank ≡ slice_index_or ranks last rank → (rank < length order) × (slice_index order rank ≡ last)
stands order ranks last rank are end read =
    let is : rank ≡ slice_index ranks last = read ∙ get_or_default ranks last rank 0 (omega (arith, are.long)) in
    (omega (arith, is, are.inverse.rank_within last (omega arith)), ap (slice_index order) is ∙ are.inverse.forth last (omega arith))

pub rerank-requires-clause-ranking : goal.rerank-requires-clause-ranking
rerank-requires-clause-ranking c =
    let order = c.self.inside.order.items in
    let ranks = c.self.inside.ranks.items in
    let last = c.len-last.result - 1 in
    let end : last + 1 ≡ length order = omega (arith, ap length c.self.view_is, c.requires) in
    let at = stands order ranks last c.index-rank.result.now c.self.invariant end c.index-rank.ensures in
    rw (c.as_slice.ensures.value, c.remove.ensures.items)
    (ranking-remove order (ranking_of order ranks c.self.invariant) c.index-rank.result.now at.0 (omega (arith, at.1, end)))

pub invariant_of-self : goal.invariant_of-self
invariant_of-self c =
    let order = c.self.inside.order.items in
    let ranks = c.self.inside.ranks.items in
    let rank = c.index-rank.result.now in
    let last = c.len-last.result - 1 in
    let new = c.rerank.new.ranks in
    let end : last + 1 ≡ length order = omega (arith, ap length c.self.view_is, c.requires) in
    let at = stands order ranks last rank c.self.invariant end c.index-rank.ensures in
    let cut : c.as_mut_slice.result.now ≡ take last ranks = c.as_mut_slice.ensures.value ∙ c.truncate.ensures.items in
    let long : length new ≡ last = omega (arith, c.rerank.auto.ranks, ap length cut, length-take-le last ranks (omega (arith, c.self.invariant.long))) in
    rw (take_at new (drop (length new) c.truncate.new.self.items) c.truncate.new.self.len (omega (arith, c.rerank.auto.ranks, c.as_mut_slice.ensures.len)), c.remove.ensures.items)
    (ranks-remove order ranks new rank last c.self.invariant at.0 at.1 end long
    (rw (c.as_slice.ensures.value ∙ c.remove.ensures.items, cut) at c.rerank.ensures))

pub returns-clause-last : goal.returns-clause-last
returns-clause-last c =
    let order = c.self.inside.order.items in
    let last = c.len-last.result - 1 in
    let end : last + 1 ≡ length order = omega (arith, ap length c.self.view_is, c.requires) in
    let at = stands order c.self.inside.ranks.items last c.index-rank.result.now c.self.invariant end c.index-rank.ensures in
    rw (← c.self.view_is) (omega (arith, at.1, end))
