-- The subscriptions that the rules make of events.
use Rattle.std.specs.Prelude.{ℕ, Bool, ◌&&◌, not, List, [], ◌∷◌, length, filter, nat_lt, if◌then◌else◌}
use Rattle.std.specs.List.{list_any, sum_by}
use Rattle.stream_ident.specs.declared.event.Event.{Event}
use Rattle.stream_ident.specs.declared.ident.SubName.{SubName}
use Rattle.stream_ident.specs.declared.ident.SubName.TheVariants as name
use Rattle.stream_ident.specs.declared.rule.Rule.{Rule}
use Rattle.stream_ident.specs.Event.{batch_token}
use Rattle.stream_ident.specs.Name.{same_name}
use Rattle.stream_ident.specs.Token.{token_lt}
use Rattle.stream_ident.specs.Implying.{implied_by, implied_by_all, with_implied}
use Rattle.pubsub_registry.specs.declared.registration.Registration.{Registration}
use Rattle.pubsub_registry.specs.declared.told.Implied.{Implied}
use Rattle.pubsub_registry.specs.declared.told.Implied.TheVariants as implied_told
use Rattle.pubsub_registry.specs.Registry.{PlainRegistry, registered}

-- what a rule makes of an event: nothing, or a subscription that starts at the rule's batch
abbrev pub implied : Event → Rule → List (SubName × Registration)
implied event rule = implied_by registered event rule

-- the same of a rule that is on the event's namespace
abbrev pub made : Event → Rule → List (SubName × Registration)
made event rule =
    if not (token_lt event.token (batch_token rule.from))
    then (name.Implicit rule.kind event.stream, registered event.stream (record { kind = rule.kind; key = event.stream.key }) (batch_token rule.from)) ∷ []
    else []

-- whether one of the rules on the event's namespace makes the subscription of a kind
abbrev pub makes_any : List ℕ → Event → List Rule → Bool
makes_any kind event rules = list_any (λ (rule : Rule). same_name kind rule.kind && not (token_lt event.token (batch_token rule.from))) rules

-- what the rules make of the events, in order, repeats included
abbrev pub all_implied : List Rule → List Event → List (SubName × Registration)
all_implied rules events = implied_by_all registered rules events

-- the names, with those that the rules make of these events
abbrev pub names_with : List Rule → List (SubName × Registration) → List Event → List (SubName × Registration)
names_with rules names events = with_implied registered rules names events

-- how many rules there are on the namespaces of the events, counted for each event
abbrev pub rule_count : List Rule → List Event → ℕ
rule_count rules events = sum_by (λ (event : Event). length (filter (λ (rule : Rule). same_name event.stream.namespace rule.namespace) rules)) events

-- the subscriptions that rules make of events are added, all or none
abbrev pub imply : PlainRegistry → List Event → PlainRegistry × Implied
imply r events =
    if nat_lt r.most_names (length (names_with r.rules r.names events)) then (r, implied_told.TooMany)
    else (record r { names = names_with r.rules r.names events }, implied_told.Implied)
