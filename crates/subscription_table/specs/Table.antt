-- The subscriptions of a partition by number, and what each call does to them.
use Rattle.std.specs.Prelude.{◌≡◌, ℕ, ◌<◌, List, [], ◌∷◌, ◌++◌, length, get_or, map, set, drop, Option, if◌then◌else◌}
use Rattle.stream_ident.specs.declared.event.Event.{Event}
use Rattle.stream_ident.specs.declared.ident.GrainId.{GrainId}
use Rattle.stream_ident.specs.declared.ident.StreamId.{StreamId}
use Rattle.stream_ident.specs.declared.ident.SubName.{SubName}
use Rattle.stream_ident.specs.declared.token.Token.{Token}
use Rattle.stream_ident.specs.Event.{batch_token}
use Rattle.stream_ident.specs.SubName.{same_sub}
use Rattle.stream_ident.specs.Words.{place_of}
pub use Rattle.consumer_grain.specs.Activations.{is_in}
use Rattle.consumer_grain.specs.Subscriptions.{closed, new_state}
use Rattle.consumer_grain.specs.declared.sub_state.SubState.{SubState}
use Rattle.pubsub_registry.specs.Implying as implying
use Rattle.pubsub_registry.specs.Registry as registry
use Rattle.pubsub_registry.specs.Registry.{PlainRegistry}
pub use Rattle.pubsub_registry.specs.Registry.{no_entry}
use Rattle.pubsub_registry.specs.declared.registration.Registration.{Registration}
use Rattle.pubsub_registry.specs.declared.told.Added.{Added}
use Rattle.pubsub_registry.specs.declared.told.Added.TheVariants as add_told
use Rattle.pubsub_registry.specs.declared.told.Closing.{Closing}
use Rattle.pubsub_registry.specs.declared.told.Closing.TheVariants as close_told
use Rattle.pubsub_registry.specs.declared.told.Implied.{Implied}
use Rattle.pubsub_registry.specs.declared.told.Implied.TheVariants as implied_told
use Rattle.pubsub_registry.specs.declared.told.RuleAdded.{RuleAdded}

-- the registry, whose names have the numbers 0, 1, 2 and so on, and by number how far each subscription is
pub record PlainTable : Type 0 where
  pub registry : PlainRegistry
  pub states : List SubState

-- a table with no subscription and no rule
abbrev pub empty : ℕ → ℕ → PlainTable
empty most_names most_rules = record { registry = registry.empty most_names most_rules; states = [] }

-- what stands for a state where there is none
abbrev pub no_state : SubState
no_state = new_state (batch_token 0) 0

-- the state of the subscription that has a number
abbrev pub state_at : PlainTable → ℕ → SubState
state_at t number = get_or t.states number no_state

-- the name that has a number
abbrev pub name_at : PlainTable → ℕ → SubName
name_at t number = (get_or t.registry.names number no_entry).0

-- the registration of the subscription that has a number
abbrev pub registration_at : PlainTable → ℕ → Registration
registration_at t number = (get_or t.registry.names number no_entry).1

-- the number of a name
abbrev pub number_of : PlainTable → SubName → Option ℕ
number_of t s = place_of same_sub s t.registry.names

-- one state changed
abbrev pub with_state : PlainTable → ℕ → SubState → PlainTable
with_state t number state = record t { states = set t.states number state }

-- one state changed, with what a call answers
abbrev pub stepped : {R : Type 0} → PlainTable → ℕ → SubState × R → PlainTable × R
stepped t number (state, told) = (with_state t number state, told)

-- one subscription more, which has handled nothing and is sought from a position on
abbrev pub subscribed : PlainTable → ℕ → Token → PlainRegistry × Added → PlainTable × Added
subscribed t position start (r, add_told.TooMany) = (t, add_told.TooMany)
subscribed t position start (r, add_told.Added number) =
    (record { registry = r; states = t.states ++ new_state start position ∷ [] }, add_told.Added number)

-- the registry's subscription more, with a state that has handled nothing
abbrev pub subscribe : PlainTable → StreamId → GrainId → Token → ℕ → PlainTable × Added
subscribe t stream grain start position = subscribed t position start (registry.add t.registry stream grain start)

-- subscriptions that have handled nothing and are sought from a position on
abbrev pub new_states : ℕ → List (SubName × Registration) → List SubState
new_states position entries = map (λ entry. new_state entry.1.start position) entries

abbrev pub implied_by : PlainTable → ℕ → PlainRegistry × Implied → PlainTable × Implied
implied_by t position (r, implied_told.TooMany) = (t, implied_told.TooMany)
implied_by t position (r, implied_told.Implied) =
    (record { registry = r; states = t.states ++ new_states position (drop (length t.registry.names) r.names) }, implied_told.Implied)

-- the subscriptions that rules make of events are added, all or none, each with a state
abbrev pub imply : PlainTable → List Event → ℕ → PlainTable × Implied
imply t events position = implied_by t position (implying.imply t.registry events)

abbrev pub closed_by : PlainTable → ℕ → PlainRegistry × Closing → PlainTable × Closing
closed_by t number (r, close_told.Done) =
    (record { registry = r; states = set t.states number (closed (state_at t number)) }, close_told.Done)
closed_by t number (r, told) = (t, told)

-- the registry's closing of the subscription with a number, and of its state
abbrev pub close : PlainTable → ℕ → PlainTable × Closing
close t number = closed_by t number (registry.close t.registry (name_at t number))

abbrev pub with_registry : {R : Type 0} → PlainTable → PlainRegistry × R → PlainTable × R
with_registry t (r, told) = (record t { registry = r }, told)

-- the registry's rule more; no state changes
abbrev pub add_rule : PlainTable → List ℕ → List ℕ → ℕ → PlainTable × RuleAdded
add_rule t kind namespace seq = with_registry t (registry.add_rule t.registry kind namespace seq)

-- the cursor back at the resume, where it is open
abbrev pub rewound_open : SubState → SubState
rewound_open s = record s { cursor = if s.live then s.resume else s.cursor }

-- open cursors are back at their resumes
abbrev pub rewound_all : PlainTable → PlainTable
rewound_all t = record t { states = map rewound_open t.states }

-- the open cursors of those with these numbers are back at their resumes
pub record AreRewound (numbers : List ℕ) (old new : PlainTable) : Type 0 where
  pub names : new.registry ≡ old.registry
  pub long : length new.states ≡ length old.states
  pub each : (i : ℕ) → i < length old.states
      → state_at new i ≡ (if is_in numbers i then rewound_open (state_at old i) else state_at old i)
