use Rattle.pubsub_registry.proofs.Prelude.{◌∙◌, ◌<◌, ℕ, Some, length, get_or, sym, ap, arith, length-map, slice_get-get_or, slice_get-map, keys_of, option_map, slice_get, SubName}
use Rattle.stream_ident.specs.declared.ident.SubName.TheVariants as name
use Rattle.pubsub_registry.specs.Registry.{no_entry}
use Rattle.pubsub_registry.proofs.SubsLemmas.{name-is}
use Rattle.pubsub_registry.proofs.sub_names.SubNames.at.Goals as goal

pub returns : goal.returns
returns c =
    let names = c.self.inside.subscriptions.now in
    let numbers = c.self.inside.numbers.now in
    let name_of : ℕ → SubName = λ n. get_or (keys_of names) n (name.Explicit 0) in
    let number = get_or numbers c.args.index 0 in
    let within : c.args.index < length numbers = omega (arith, c.requires, ap length c.self.view_is, length-map numbers name_of) in
    let there : number < length names = c.self.invariant c.args.index 0 within in
    sym (ap (λ names. slice_get names c.args.index) c.self.view_is) ∙ slice_get-map name_of numbers c.args.index
    ∙ ap (option_map name_of) (slice_get-get_or numbers c.args.index 0 within)
    ∙ ap Some (name-is names number (get_or names number no_entry) (slice_get-get_or names number no_entry there) ∙ sym c.name.ensures)
