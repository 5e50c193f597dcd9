use Rattle.ranked_index.specs.Ranking.{IsReranked}
use Rattle.ranked_index.proofs.ranking.rerank.Given as goal

abbrev pub invariant-loop-rank : goal.invariant-loop-rank
invariant-loop-rank l = IsReranked l.order l.initial.ranks l.ranks l.from l.rank
