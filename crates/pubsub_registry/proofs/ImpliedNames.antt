-- Which names the rules make of events.
use Rattle.pubsub_registry.proofs.Prelude.{◌≡◌, ◌∙◌, ℕ, ◌&&◌, ◌||◌, not, Bool, true, false, List, [], ◌∷◌, ◌++◌, fold, if◌then◌else◌, refl, sym, ap, flat_map, list_any, has, has-append, has-cons, has-fold, same_stream-equal, same_stream-refl, batch_token, added, same_name, same_stream, token_lt, Event, StreamId, SubName, Implicit, Rule}
use Rattle.std.proofs.Math.Bool.{and-false, and-or_distrib_left, and-true, and_comm, or-false, or_assoc, or_comm}
use Rattle.pubsub_registry.specs.Implying.{all_implied, implied, made, makes_any, names_with}
use Rattle.pubsub_registry.specs.Registry.{registered}
use Rattle.pubsub_registry.specs.declared.registration.Registration.{Registration}
use Rattle.pubsub_registry.proofs.Entries.{Names}
use Rattle.pubsub_registry.proofs.RuleLemmas.{on}

abbrev pub entry : Event → Rule → SubName × Registration
entry event rule = (Implicit rule.kind event.stream, registered event.stream (record { kind = rule.kind; key = event.stream.key }) (batch_token rule.from))

-- what the rules on an event's namespace make of it is what all make
pub implied-on : (event : Event) (rules : List Rule) → flat_map (implied event) rules ≡ flat_map (made event) (on event.stream.namespace rules)
implied-on event [] = refl
implied-on event (rule ∷ rules) = by (same_name event.stream.namespace rule.namespace) (implied-on event rules)
  where
    by : (b : Bool) → flat_map (implied event) rules ≡ flat_map (made event) (on event.stream.namespace rules)
        → (if b && not (token_lt event.token (batch_token rule.from)) then entry event rule ∷ [] else []) ++ flat_map (implied event) rules ≡ flat_map (made event) (if b then rule ∷ on event.stream.namespace rules else on event.stream.namespace rules)
    by true rest = ap (λ more. made event rule ++ more) rest
    by false rest = rest

-- a rule on the event's namespace makes the subscription of a kind
abbrev makes : List ℕ → Event → Rule → Bool
makes kind event rule = same_name kind rule.kind && not (token_lt event.token (batch_token rule.from))

has-rule : (kind : List ℕ) (stream : StreamId) (event : Event) (rule : Rule) → has (Implicit kind stream) (made event rule) ≡ same_stream stream event.stream && makes kind event rule
has-rule kind stream event rule = by (not (token_lt event.token (batch_token rule.from)))
  where
    by : (holds : Bool) → has (Implicit kind stream) (if holds then entry event rule ∷ [] else []) ≡ same_stream stream event.stream && (same_name kind rule.kind && holds)
    by true =
        has-cons (Implicit kind stream) (entry event rule) [] ∙ or-false _ ∙ and_comm (same_name kind rule.kind) (same_stream stream event.stream)
        ∙ ap (λ kinds. same_stream stream event.stream && kinds) (sym (and-true (same_name kind rule.kind)))
    by false = sym (ap (λ kinds. same_stream stream event.stream && kinds) (and-false (same_name kind rule.kind)) ∙ and-false (same_stream stream event.stream))

-- some rule on the event's namespace makes a stream's subscription of a kind
has-made : (kind : List ℕ) (stream : StreamId) (event : Event) (rules : List Rule) → has (Implicit kind stream) (flat_map (made event) rules) ≡ same_stream stream event.stream && makes_any kind event rules
has-made kind stream event [] = sym (and-false (same_stream stream event.stream))
has-made kind stream event (rule ∷ rules) =
    has-append (Implicit kind stream) (made event rule) (flat_map (made event) rules)
    ∙ (λ i. has-rule kind stream event rule i || has-made kind stream event rules i)
    ∙ sym (and-or_distrib_left (same_stream stream event.stream) (makes kind event rule) (makes_any kind event rules))

-- of an event of the stream
pub has-of_event : (kind : List ℕ) (event : Event) (rules : List Rule) → has (Implicit kind event.stream) (flat_map (made event) rules) ≡ makes_any kind event rules
has-of_event kind event rules =
    has-made kind event.stream event rules ∙ ap (λ same. same && makes_any kind event rules) (same_stream-refl event.stream)

-- of one of these events: it is the stream's, so that the rules on the stream's namespace are those on the event's
pub has-of_any : (kind : List ℕ) (stream : StreamId) (rules : List Rule) (events : List Event) → has (Implicit kind stream) (all_implied rules events) ≡ list_any (λ (event : Event). same_stream stream event.stream && makes_any kind event (on stream.namespace rules)) events
has-of_any kind stream rules [] = refl
has-of_any kind stream rules (event ∷ events) =
    has-append (Implicit kind stream) (flat_map (implied event) rules) (all_implied rules events)
    ∙ (λ i. (ap (has (Implicit kind stream)) (implied-on event rules) ∙ has-made kind stream event (on event.stream.namespace rules) ∙ by (same_stream stream event.stream) refl) i || has-of_any kind stream rules events i)
  where
    by : (same : Bool) → same_stream stream event.stream ≡ same → same && makes_any kind event (on event.stream.namespace rules) ≡ same && makes_any kind event (on stream.namespace rules)
    by true same = ap (λ (s : StreamId). makes_any kind event (on s.namespace rules)) (sym (same_stream-equal stream event.stream same))
    by false apart = refl

-- a name is there after the earlier events and the rules before where it was, or is made of this event, or of an earlier one
pub has-so_far : (names : Names) (rules before : List Rule) (earlier : List Event) (event : Event) (kind : List ℕ)
    → has (Implicit kind event.stream) (fold added (names_with rules names earlier) (flat_map (made event) before))
    ≡ has (Implicit kind event.stream) names
    || (makes_any kind event before || list_any (λ (other : Event). same_stream event.stream other.stream && makes_any kind other (on event.stream.namespace rules)) earlier)
has-so_far names rules before earlier event kind =
    has-fold (Implicit kind event.stream) (names_with rules names earlier) (flat_map (made event) before)
    ∙ (λ i. has-fold (Implicit kind event.stream) names (all_implied rules earlier) i || has-of_event kind event before i)
    ∙ (λ i. (has (Implicit kind event.stream) names || has-of_any kind event.stream rules earlier i) || makes_any kind event before)
    ∙ or_assoc (has (Implicit kind event.stream) names) _ (makes_any kind event before)
    ∙ ap (λ made. has (Implicit kind event.stream) names || made) (or_comm _ (makes_any kind event before))
