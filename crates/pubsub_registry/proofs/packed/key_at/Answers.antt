use Rattle.pubsub_registry.proofs.Prelude.{◌≡◌, ◌∙◌, Some, sym, ap, get_or_from_slice_get, keys_of, option_map}
use Rattle.std.proofs.Common.{slice_get}
use Rattle.pubsub_registry.proofs.PackedLemmas.{key-slice}
use Rattle.pubsub_registry.proofs.packed.key_at.Goals as goal

pub returns : goal.returns
returns g c = λ d.
    let entries = c.args.map.now.entries in
    let found : slice_get entries c.args.number ≡ Some (c.unwrap.result.0.now, c.unwrap.result.1.now) = sym c.get_index.ensures.entry ∙ ap (option_map _) c.unwrap.ensures in
    get_or_from_slice_get (keys_of entries) c.args.number c.unwrap.result.0.now d (key-slice entries c.args.number _ found)
