use Rattle.ranked_index.proofs.Prelude.{◌≡◌, ◌∙◌, ℕ, ◌+◌, ◌≤◌, List, [], ◌∷◌, ◌++◌, length, drop, ap, sym, subst, arith, length-append, take_at, insert}
use Rattle.ranked_index.specs.Ranking.{IsRanking}
use Rattle.ranked_index.proofs.RankLemmas.{ranking_of, ranking-insert, ranks-insert}
use Rattle.ranked_index.proofs.ranking.Ranking.insert.Goals as goal

pub rerank-requires-clause-ranking : goal.rerank-requires-clause-ranking
rerank-requires-clause-ranking c =
    let order = c.self.inside.order.items in
    let numbers : c.as_slice.result.now ≡ insert order c.args.rank c.len-number.result = c.as_slice.ensures.value ∙ c.in_ok-insert.ensures.items in
    let number : c.len-number.result ≡ length order = omega arith in
    let fits : c.args.rank ≤ length order = omega (arith, ap length c.self.view_is) in
    subst IsRanking (sym (numbers ∙ ap (insert order c.args.rank) number)) (ranking-insert order (ranking_of order c.self.inside.ranks.items c.self.invariant) c.args.rank fits)

pub invariant_of-self-2 : goal.invariant_of-self-2
invariant_of-self-2 c =
    let order = c.self.inside.order.items in
    let ranks = c.self.inside.ranks.items in
    let new = c.rerank.new.ranks in
    let number : c.len-number.result ≡ length order = omega arith in
    let fits : c.args.rank ≤ length order = omega (arith, ap length c.self.view_is) in
    let numbers : c.insert.new.self.items ≡ insert order c.args.rank (length order) = c.in_ok-insert.ensures.items ∙ ap (insert order c.args.rank) number in
    let pushed : c.as_mut_slice.result.now ≡ ranks ++ c.args.rank ∷ [] =
    c.as_mut_slice.ensures.value ∙ c.push_reserved.ensures.items ∙ ap (λ (xs : List ℕ). xs ++ c.args.rank ∷ []) c.reserve.ensures.items in
    let long : length new ≡ length ranks + 1 = omega (arith, c.rerank.auto.ranks, ap length pushed, length-append ranks (c.args.rank ∷ [])) in
    rw (take_at new (drop (length new) c.push_reserved.new.self.items) c.push_reserved.new.self.len (omega (arith, c.rerank.auto.ranks)), numbers)
    (ranks-insert order ranks c.self.invariant c.args.rank fits new long
    (rw (c.as_slice.ensures.value ∙ numbers, pushed) at c.rerank.ensures))
