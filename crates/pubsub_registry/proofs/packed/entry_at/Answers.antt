use Rattle.pubsub_registry.proofs.Prelude.{◌∙◌, sym, ap, slice_get-map, option_map}
use Rattle.pubsub_registry.specs.Packed.{entry_by}
use Rattle.pubsub_registry.proofs.PackedLemmas.{within-at}
use Rattle.pubsub_registry.proofs.packed.entry_at.Goals as goal

pub returns-clause-entry : goal.returns-clause-entry
returns-clause-entry c = λ ids.
    slice_get-map (entry_by ids) c.args.rows.now.entries c.args.index
    ∙ ap (option_map (entry_by ids)) (sym c.get_index.ensures.entry ∙ ap (option_map _) c.unwrap.ensures)

pub returns-clause-within : goal.returns-clause-within
returns-clause-within c = λ ids. within-at ids _ _ _ (sym c.get_index.ensures.entry ∙ ap (option_map _) c.unwrap.ensures)
