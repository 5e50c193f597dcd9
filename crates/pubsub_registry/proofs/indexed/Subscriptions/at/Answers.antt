use Rattle.pubsub_registry.proofs.Prelude.{◌∙◌, Some, sym, ap}
use Rattle.std.proofs.Common.{slice_get}
use Rattle.pubsub_registry.specs.Registry.{no_entry}
use Rattle.pubsub_registry.proofs.Entries.{Names}
use Rattle.pubsub_registry.proofs.indexed.Subscriptions.at.Goals as goal

pub key_at-requires : goal.key_at-requires
key_at-requires c = (c.entry_at.ensures.within _ c.self.invariant.within).1.0

pub key_at-requires-2 : goal.key_at-requires-2
key_at-requires-2 c = (c.entry_at.ensures.within _ c.self.invariant.within).1.1

pub name_by-requires : goal.name_by-requires
name_by-requires c = (c.entry_at.ensures.within _ c.self.invariant.within).0

pub returns : goal.returns
returns c =
    let stream = c.key_at.ensures no_entry.1.stream in
    let grain = c.key_at-2.ensures no_entry.1.grain in
    let row = c.entry_at.result.1.now in
    ap (λ (names : Names). slice_get names c.args.index) (sym c.self.view_is) ∙ c.entry_at.ensures.entry _
    ∙ ap Some (λ i. (sym c.name_by.ensures i, record { stream = stream i; grain = grain i; start = row.start; is_open = row.is_open }))
