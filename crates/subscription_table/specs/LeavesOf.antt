-- What is told of each subscription to find the slowest and the next that is due, by number.
use Rattle.std.specs.Prelude.{ℕ, Bool, List, [], ◌∷◌, Option, Some, None, if◌then◌else◌}
use Rattle.stream_ident.specs.declared.ident.SubName.{SubName}
use Rattle.consumer_grain.specs.Subscriptions.{is_unacknowledged}
use Rattle.consumer_grain.specs.declared.sub_state.SubState.{SubState}
use Rattle.pubsub_registry.specs.declared.registration.Registration.{Registration}
use Rattle.subscription_table.specs.Leaves.{NamedLeaf}

-- the resume where it is open
abbrev pub open_resume : Bool → ℕ → Option ℕ
open_resume is_open resume = if is_open then Some resume else None

abbrev pub leaf_of : SubName × Registration → SubState → NamedLeaf
leaf_of entry state =
    record { name = entry.0; resume = open_resume state.live state.resume; is_unacknowledged = is_unacknowledged state }

-- each name, with the resume where it is open and whether something is unacknowledged
abbrev pub leaves_of : List (SubName × Registration) → List SubState → List NamedLeaf
leaves_of [] states = []
leaves_of (entry ∷ entries) [] = []
leaves_of (entry ∷ entries) (state ∷ states) = leaf_of entry state ∷ leaves_of entries states
