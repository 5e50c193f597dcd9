use Rattle.pubsub_registry.proofs.Prelude.{◌∙◌, Some, sym, ap, get_or_from_slice_get, SubName}
use Rattle.pubsub_registry.specs.Registry.{no_entry}
use Rattle.pubsub_registry.specs.declared.registration.Registration.{Registration}
use Rattle.pubsub_registry.proofs.Entries.{stands-placed, value-unplaced}
use Rattle.pubsub_registry.proofs.indexed.Subscriptions.get.Goals as goal

pub returns-in_err-place : goal.returns-in_err-place
returns-in_err-place c =
    c.from_residual.ensures ∙ sym (value-unplaced c.args.sub.now c.args.self.now (sym c.in_err-place.ensures.place))

pub returns : goal.returns
returns c =
    let place = c.in_ok-place.place in
    ap (λ (entry : SubName × Registration). Some entry.1) (sym (get_or_from_slice_get c.args.self.now place c.at.result no_entry c.at.ensures))
    ∙ sym (stands-placed c.args.sub.now c.args.self.now place (sym c.in_ok-place.ensures.place)).0
