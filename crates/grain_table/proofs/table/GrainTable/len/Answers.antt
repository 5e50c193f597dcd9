use Rattle.grain_table.proofs.Prelude.{subst}
use Rattle.grain_table.specs.Grains.{AreDistinct}
use Rattle.grain_table.proofs.TableLemmas.{distinct-ranked}
use Rattle.grain_table.proofs.table.GrainTable.len.Goals as goal

pub returns-clause-distinct : goal.returns-clause-distinct
returns-clause-distinct c =
    subst AreDistinct c.self.view_is (distinct-ranked c.self.inside.entries.items c.self.inside.order.items c.self.invariant.ranked)
