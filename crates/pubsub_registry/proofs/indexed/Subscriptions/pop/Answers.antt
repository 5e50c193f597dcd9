use Rattle.pubsub_registry.proofs.Prelude.{◌≡◌, ◌∙◌, ◌-◌, ◌++◌, ◌∷◌, [], ◌<◌, List, Some, ap, sym, subst, take, length, length-take, arith, All-take, slice_get-get_or, take-map, keys_of, slice_get, same_stream}
use Rattle.std.proofs.lemmas.List.Elements.{All-from_recursion, recursion_from_All}
use Rattle.indexmap.proofs.MapLemmas.{split_last}
use Rattle.pubsub_registry.specs.Index.{IsIndexed}
use Rattle.pubsub_registry.specs.Packed.{entries_by, entry_by, ids_in, IsEntryWithin, IsPacked}
use Rattle.pubsub_registry.specs.Registry.{no_entry}
use Rattle.pubsub_registry.specs.Rows.{row_of}
use Rattle.pubsub_registry.specs.declared.packed.Key.{Key}
use Rattle.pubsub_registry.specs.declared.packed.Row.{Row}
use Rattle.pubsub_registry.proofs.Entries.{Names}
use Rattle.pubsub_registry.proofs.IndexLemmas.{indexed-pop}
use Rattle.pubsub_registry.proofs.PackedLemmas.{packed-rows}
use Rattle.pubsub_registry.proofs.indexed.Subscriptions.pop.Goals as goal

pub take_out-requires : goal.take_out-requires
take_out-requires c = (c.entry_at.ensures.within _ c.self.invariant.within).1.0

pub invariant_of-self : goal.invariant_of-self
invariant_of-self c =
    let by_stream = c.self.inside.by_stream in
    let grains = c.self.inside.grains in
    let ids = ids_in by_stream grains in
    let rows = c.self.inside.rows.entries in
    let names = entries_by ids rows in
    let new = c.take_out.new.by_stream in
    let last = c.len-last.result - 1 in
    let own = entry_by ids (c.entry_at.result.0.now, c.entry_at.result.1.now) in
    let long : length names ≡ c.len-last.result = ap length c.self.view_is ∙ sym c.len-last.ensures.len in
    let some : 0 < c.len-last.result = omega (arith, c.requires, c.len-last.ensures.len) in
    let at : slice_get names (length names - 1) ≡ Some own = ap (λ n. slice_get names (n - 1)) long ∙ c.entry_at.ensures.entry ids in
    let split : names ≡ take (length names - 1 - 0) names ++ own ∷ [] = split_last names own at (omega (arith, long, some)) in
    let same : length names - 1 - 0 ≡ last = omega (arith, long) in
    let within = c.entry_at.ensures.within ids c.self.invariant.within in
    let there = slice_get-get_or ids.streams c.entry_at.result.1.now.stream no_entry.1.stream within.1.0 in
    subst (λ (left : List (Key × Row)). IsPacked new grains left) (sym c.truncate.ensures.entries)
    (packed-rows by_stream new grains rows (take last rows) c.take_out.ensures.0 c.self.invariant (recursion_from_All (IsEntryWithin ids) (take last rows) (All-take (IsEntryWithin ids) last rows (All-from_recursion (IsEntryWithin ids) rows c.self.invariant.within)))
    (subst (λ (names : Names). IsIndexed names (row_of same_stream new)) (take-map (entry_by ids) last rows)
    (indexed-pop (take last names) _ _ own.0 own.1 last (omega (arith, long, some, length-take last names)) names (split ∙ ap (λ n. take n names ++ own ∷ []) same) c.self.invariant.indexed
    (λ other. c.take_out.ensures.1 own.1.stream other there)))).0

pub returns : goal.returns
returns c =
    let rows = c.self.inside.rows.entries in
    let last = c.len-last.result - 1 in
    (λ i. entries_by (record { streams = c.take_out.ensures.0 i; grains = keys_of c.self.inside.grains.entries }) (c.truncate.ensures.entries i))
    ∙ sym (take-map (entry_by (ids_in c.self.inside.by_stream c.self.inside.grains)) last rows)
    ∙ ap (take last) c.self.view_is ∙ ap (λ n. take (n - 1) c.args.self.now) c.len-last.ensures.len
