-- A subscription's record by its number.
use Rattle.std.specs.Prelude.{ℕ, get_or}
use Rattle.stream_model.specs.declared.plain.Subscription.{Subscription}
use Rattle.subscription_table.specs.Table.{no_entry, no_state}
use Rattle.step_core.specs.declared.parts.Parts.{Parts}
use Rattle.step_core.specs.View.{sub_of}

-- the plain record that the parts stand for under a number
abbrev pub record_of : Parts → ℕ → Subscription
record_of parts number =
    (sub_of (get_or parts.subs.registry.names number no_entry) (get_or parts.subs.states number no_state)).1
