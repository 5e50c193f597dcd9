-- The subscriptions that rules make of events (Orleans, Streaming: implicit subscriptions).
use Rattle.std.specs.Prelude.{◌&&◌, not, List, [], ◌∷◌, fold, if◌then◌else◌}
use Rattle.std.specs.List.{flat_map}
use Rattle.stream_ident.specs.declared.event.Event.{Event}
use Rattle.stream_ident.specs.declared.ident.GrainId.{GrainId}
use Rattle.stream_ident.specs.declared.ident.StreamId.{StreamId}
use Rattle.stream_ident.specs.declared.ident.SubName.{SubName}
use Rattle.stream_ident.specs.declared.ident.SubName.TheVariants as name
use Rattle.stream_ident.specs.declared.rule.Rule.{Rule}
use Rattle.stream_ident.specs.declared.token.Token.{Token}
use Rattle.stream_ident.specs.Event.{batch_token}
use Rattle.stream_ident.specs.Name.{same_name}
use Rattle.stream_ident.specs.SubName.{same_sub}
use Rattle.stream_ident.specs.Token.{token_lt}
use Rattle.stream_ident.specs.Words.{with_new}

-- what is kept of a subscription that is new: of its stream, its grain and its start
abbrev pub Making : Type 0 → Type 0
Making V = StreamId → GrainId → Token → V

-- what a rule makes of an event: nothing, or a subscription that starts at the rule's batch
abbrev pub implied_by : {V : Type 0} → Making V → Event → Rule → List (SubName × V)
implied_by make event rule =
    if same_name event.stream.namespace rule.namespace && not (token_lt event.token (batch_token rule.from))
    then (name.Implicit rule.kind event.stream, make event.stream (record { kind = rule.kind; key = event.stream.key }) (batch_token rule.from)) ∷ []
    else []

-- what the rules make of the events, in order, repeats included
abbrev pub implied_by_all : {V : Type 0} → Making V → List Rule → List Event → List (SubName × V)
implied_by_all make rules events = flat_map (λ event. flat_map (implied_by make event) rules) events

-- the name and its value, unless the name is there
abbrev pub added : {V : Type 0} → List (SubName × V) → SubName × V → List (SubName × V)
added entries entry = with_new same_sub entries entry

-- the subscriptions by name, with those that the rules make of these events
abbrev pub with_implied : {V : Type 0} → Making V → List Rule → List (SubName × V) → List Event → List (SubName × V)
with_implied make rules entries events = fold added entries (implied_by_all make rules events)
