use Rattle.grain_table.proofs.Prelude.{◌≡◌, ap, refl, ℕ, List, [], ◌∷◌, length, vec_capacity, arith}
use Rattle.ranked_index.proofs.RankLemmas.{ranking-from}
use Rattle.grain_table.specs.Grains.{PlainGrains}
use Rattle.grain_table.specs.Table.{IsTable}
use Rattle.grain_table.proofs.table.GrainTable.new.Goals as goal

no-grains : (grains : PlainGrains) (order ready : List ℕ) (room : ℕ) → length grains ≡ 0 → length order ≡ 0 → length ready ≡ 0 → IsTable grains order ready room 0
no-grains (grain ∷ grains) order ready room none no_order no_ready = absurd (omega (arith, none))
no-grains [] order ready room none no_order no_ready = record {
  ranked = record {
    long = no_order;
    ranking = ranking-from order (λ rank within. absurd (omega (arith, no_order, within))) (λ i j less within. absurd (omega (arith, no_order, within)));
    rises = λ d low high less within. absurd (omega (arith, no_order, within));
  };
  kept = record {
    are_ready = record {
      rising = record { within = λ i within. absurd (omega (arith, no_ready, within)); rises = λ d low high less within. absurd (omega (arith, no_ready, within)) };
      passing = λ d i within. absurd (omega (arith, no_ready, within));
      listed = λ d n within passed. absurd (omega (arith, within));
    };
    fits = omega arith;
    few = omega arith;
    counted = refl;
  };
}

pub invariant_of-result : goal.invariant_of-result
invariant_of-result c =
    no-grains c.new.result.items c.new-2.result.items c.new-3.result.items (vec_capacity c.new-3.result) (ap length c.new.ensures.items) (ap length c.new-2.ensures.items) (ap length c.new-3.ensures.items)
