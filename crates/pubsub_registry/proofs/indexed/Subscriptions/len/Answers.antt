use Rattle.pubsub_registry.proofs.Prelude.{Bool, subst, keys_of}
use Rattle.std.specs.List.{IsDistinct}
use Rattle.pubsub_registry.specs.Index.{AreUnique}
use Rattle.pubsub_registry.specs.Packed.{ids_in}
use Rattle.pubsub_registry.specs.declared.packed.Key.{Key}
use Rattle.pubsub_registry.proofs.PackedLemmas.{distinct-names, key_equal-is, unique-keys}
use Rattle.pubsub_registry.proofs.indexed.Subscriptions.len.Goals as goal

pub returns-clause-unique : goal.returns-clause-unique
returns-clause-unique c =
    let ids = ids_in c.self.inside.by_stream c.self.inside.grains in
    let rows = c.self.inside.rows.entries in
    let distinct = subst (λ (same : Key → Key → Bool). IsDistinct same (keys_of rows)) key_equal-is c.len.ensures.unique in
    subst AreUnique c.self.view_is (unique-keys _ (distinct-names ids c.self.invariant.streams_apart c.self.invariant.grains_apart rows c.self.invariant.within distinct))
