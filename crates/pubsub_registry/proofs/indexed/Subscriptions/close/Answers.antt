use Rattle.pubsub_registry.proofs.Prelude.{◌∙◌, sym, ap, option_copied_mut, same_sub, changed_value}
use Rattle.pubsub_registry.specs.Registry.{closed_registration}
use Rattle.pubsub_registry.proofs.Entries.{Names, closed-unplaced, place_in}
use Rattle.pubsub_registry.proofs.PackedLemmas.{packed-closed}
use Rattle.pubsub_registry.proofs.indexed.Subscriptions.close.Goals as goal

pub returns-in_default : goal.returns-in_default
returns-in_default c = closed-unplaced c.args.sub.now c.args.self.now (sym c.in_default.ensures.place)

pub invariant_of-self : goal.invariant_of-self
invariant_of-self c =
    (packed-closed c.self.inside.by_stream c.self.inside.grains c.self.inside.rows.entries c.in-Some.place c.unwrap-row.result.now c.args.sub.now c.self.invariant
    (sym (ap option_copied_mut c.unwrap-row.ensures) ∙ c.get_index_mut.ensures.value) (ap (place_in c.args.sub.now) c.self.view_is ∙ sym c.in-Some.ensures.place)).0

pub returns : goal.returns
returns c =
    (packed-closed c.self.inside.by_stream c.self.inside.grains c.self.inside.rows.entries c.in-Some.place c.unwrap-row.result.now c.args.sub.now c.self.invariant
    (sym (ap option_copied_mut c.unwrap-row.ensures) ∙ c.get_index_mut.ensures.value) (ap (place_in c.args.sub.now) c.self.view_is ∙ sym c.in-Some.ensures.place)).1
    ∙ ap (λ (names : Names). changed_value same_sub c.args.sub.now closed_registration names) c.self.view_is
