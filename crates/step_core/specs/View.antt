-- The plain partition that the parts of a partition stand for.
use Rattle.std.specs.Prelude.{ℕ, List, [], ◌∷◌, get_or, map}
use Rattle.std.specs.Option.{option_map}
use Rattle.stream_ident.specs.declared.ident.GrainId.{GrainId}
use Rattle.stream_ident.specs.declared.ident.SubName.{SubName}
use Rattle.stream_ident.specs.declared.ident.SubName.TheVariants as name
use Rattle.stream_model.specs.declared.plain.Delivery as plain_delivery
use Rattle.stream_model.specs.declared.plain.Grain.{Grain}
use Rattle.stream_model.specs.declared.plain.RunningTurn as plain_turn
use Rattle.stream_model.specs.declared.plain.Subscription.{Subscription}
use Rattle.consumer_grain.specs.declared.mailbox.Delivery.{Delivery}
use Rattle.consumer_grain.specs.declared.activation.RunningTurn.{RunningTurn}
use Rattle.consumer_grain.specs.Activations.{PlainActivation}
use Rattle.consumer_grain.specs.declared.sub_state.SubState.{SubState}
use Rattle.pubsub_registry.specs.declared.registration.Registration.{Registration}

-- a name with its registration and its state is a record
abbrev pub sub_of : SubName × Registration → SubState → SubName × Subscription
sub_of entry state = (
  entry.0,
  record {
    stream = entry.1.stream;
    grain = entry.1.grain;
    start = entry.1.start;
    handled = state.handled;
    note = state.note;
    resume = state.resume;
    cursor = state.cursor;
    is_open = state.live;
  },
)

-- records by number: the names and their states stand in one order
abbrev pub subs_of : List (SubName × Registration) → List SubState → List (SubName × Subscription)
subs_of [] states = []
subs_of (entry ∷ entries) [] = []
subs_of (entry ∷ entries) (state ∷ states) = sub_of entry state ∷ subs_of entries states

-- the name of a record
abbrev pub name_at : List (SubName × Registration) → ℕ → SubName
name_at names n = get_or (map (λ entry. entry.0) names) n (name.Explicit 0)

abbrev pub delivery_of : List (SubName × Registration) → Delivery → plain_delivery.Delivery
delivery_of names d = record { sub = name_at names d.sub; position = d.position }

abbrev pub turn_of : List (SubName × Registration) → RunningTurn → plain_turn.RunningTurn
turn_of names run = record { sub = name_at names run.sub; turn = run.turn; positions = run.positions }

abbrev pub grain_of : List (SubName × Registration) → PlainActivation → Grain
grain_of names a =
    record {
      activation = a.number;
      active = a.active;
      mailbox = map (delivery_of names) a.mailbox;
      running = option_map (turn_of names) a.running;
    }

-- grains in the order of their first activation
abbrev pub grains_of : List (SubName × Registration) → List (GrainId × PlainActivation) → List (GrainId × Grain)
grains_of names grains = map (λ entry. (entry.0, grain_of names entry.1)) grains
