-- What one more rule, or one more event, adds to the names.
use Rattle.pubsub_registry.proofs.Prelude.{◌≡◌, ◌∙◌, ℕ, ◌+◌, ◌<◌, ◌&&◌, ◌||◌, not, Bool, true, false, List, [], ◌∷◌, ◌++◌, length, take, get_or, get_or_default, fold, if◌then◌else◌, sym, ap, arith, length-append, flat_map, list_any, added-last, added-more, has, batch_token, added, same_stream, no_event, token_lt, Event, Implicit, Rule}
use Rattle.pubsub_registry.specs.Implying.{implied, made, makes_any, names_with}
use Rattle.pubsub_registry.proofs.Entries.{Names}
use Rattle.pubsub_registry.proofs.ImpliedNames.{entry, has-so_far, implied-on}
use Rattle.pubsub_registry.proofs.RuleLemmas.{on}

-- one more event
pub event-last : (rules : List Rule) (names : Names) (events : List Event) (event : Event)
    → names_with rules names (events ++ event ∷ []) ≡ fold added (names_with rules names events) (flat_map (made event) (on event.stream.namespace rules))
event-last rules names events event =
    added-last (λ event. flat_map (implied event) rules) names events event ∙ ap (fold added (names_with rules names events)) (implied-on event rules)

pub event-more : (rules here : List Rule) (names so_far : Names) (events : List Event) (i : ℕ) (event : Event) → i < length events → event ≡ get_or events i no_event
    → so_far ≡ names_with rules names (take i events) → here ≡ on event.stream.namespace rules → fold added so_far (flat_map (made event) here) ≡ names_with rules names (take (i + 1) events)
event-more rules here names so_far events i event within is are theirs =
    (λ j. fold added (are j) (flat_map (made event) (theirs j))) ∙ ap (fold added (names_with rules names (take i events))) (sym (implied-on event rules))
    ∙ sym (added-more (λ event. flat_map (implied event) rules) names events i event within (is ∙ get_or_default events i no_event event within))

-- ---- how many

abbrev pub one_if : Bool → ℕ
one_if true = 1
one_if false = 0

-- one more name where the rule holds for the event and the name isn't there, and else none
rule-adds : (names : Names) (event : Event) (rule : Rule)
    → length (fold added names (made event rule)) ≡ length names + one_if (not (token_lt event.token (batch_token rule.from)) && not (has (Implicit rule.kind event.stream) names))
rule-adds names event rule = by (not (token_lt event.token (batch_token rule.from)))
  where
    more : (there : Bool) → length (if there then names else names ++ entry event rule ∷ []) ≡ length names + one_if (not there)
    more true = omega arith
    more false = length-append names (entry event rule ∷ [])

    by : (holds : Bool) → length (fold added names (if holds then entry event rule ∷ [] else [])) ≡ length names + one_if (holds && not (has (Implicit rule.kind event.stream) names))
    by true = more (has (Implicit rule.kind event.stream) names)
    by false = omega arith

-- one of the rules before makes the subscription of a kind of the event, or one on its namespace of an earlier one
abbrev repeats : List Rule → List Rule → List Event → Event → List ℕ → Bool
repeats rules before earlier event kind =
    makes_any kind event before || list_any (λ (other : Event). same_stream event.stream other.stream && makes_any kind other rules) earlier

-- so at a step of the walk through the rules on the event's namespace, where it isn't there at first and is no repeat
pub step-counts : (all : List Rule) (names : Names) (earlier : List Event) (event : Event) (rules : List Rule) (i : ℕ) (rule : Rule) (new : Bool)
    → rules ≡ on event.stream.namespace all → i < length rules → rule ≡ get_or rules i rule
    → new ≡ not (token_lt event.token (batch_token rule.from)) && not (has (Implicit rule.kind event.stream) names || repeats rules (take i rules) earlier event rule.kind)
    → length (fold added (names_with all names earlier) (flat_map (made event) (take (i + 1) rules)))
    ≡ length (fold added (names_with all names earlier) (flat_map (made event) (take i rules))) + one_if new
step-counts all names earlier event rules i rule new are_on within is is_new =
    let so_far = fold added (names_with all names earlier) (flat_map (made event) (take i rules)) in
    let holds = not (token_lt event.token (batch_token rule.from)) in
    let there = has (Implicit rule.kind event.stream) names in
    ap length (added-more (made event) (names_with all names earlier) rules i rule within is) ∙ rule-adds so_far event rule
    ∙ ap (λ new. length so_far + one_if new) (
    ap (λ there. holds && not there) (has-so_far names all (take i rules) earlier event rule.kind)
    ∙ ap (λ rules'. holds && not (there || repeats rules' (take i rules) earlier event rule.kind)) (sym are_on) ∙ sym is_new
    )
