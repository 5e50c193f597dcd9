-- Registries that are sound with what the rules make of events.
use Rattle.pubsub_registry.proofs.Prelude.{◌≡◌, ℕ, ◌≤◌, ◌&&◌, not, Bool, true, false, List, [], ◌∷◌, ◌++◌, fold, length, if◌then◌else◌, sym, subst, arith, AllByRecursion, flat_map, has, batch_token, added, same_name, token_lt, Event, SubName, Rule}
use Rattle.stream_ident.specs.declared.ident.SubName.TheVariants as name
use Rattle.stream_ident.proofs.EachOf.{All-flat_map}
use Rattle.pubsub_registry.specs.Implying.{all_implied, implied, names_with}
use Rattle.pubsub_registry.specs.Registry.{PlainRegistry}
use Rattle.pubsub_registry.specs.Sound.{IsSound}
use Rattle.pubsub_registry.specs.declared.registration.Registration.{Registration}
use Rattle.pubsub_registry.proofs.Entries.{Names}
use Rattle.pubsub_registry.proofs.ImpliedNames.{entry}
use Rattle.pubsub_registry.proofs.SoundLemmas.{IsNumbered, numbered-push, sound-with}

abbrev IsImplicit : SubName × Registration → Type 0
IsImplicit made = (number : ℕ) → made.0 ≡ name.Explicit number → ⊥

-- what holds of each subscription that a rule makes of an event
pub All-implied : (P : SubName × Registration → Type 0) → ((event : Event) (rule : Rule) → P (entry event rule)) → (rules : List Rule) (events : List Event) → AllByRecursion P (all_implied rules events)
All-implied P each rules = All-flat_map P (λ event. flat_map (implied event) rules) (λ event. All-flat_map P (implied event) (of_rule event) rules)
  where
    by : (event : Event) (rule : Rule) (holds : Bool) → AllByRecursion P (if holds then entry event rule ∷ [] else [])
    by event rule true = (each event rule, tt)
    by event rule false = tt

    of_rule : (event : Event) (rule : Rule) → AllByRecursion P (implied event rule)
    of_rule event rule = by event rule (same_name event.stream.namespace rule.namespace && not (token_lt event.token (batch_token rule.from)))

numbered-added : (names entries : Names) (most : ℕ) → AllByRecursion IsImplicit entries → IsNumbered names most → IsNumbered (fold added names entries) most
numbered-added names [] most implicit numbered = numbered
numbered-added names (made ∷ entries) most implicit numbered = numbered-added (added names made) entries most implicit.1 (by (has made.0 names))
  where
    by : (there : Bool) → IsNumbered (if there then names else names ++ made ∷ []) most
    by true = numbered
    by false = numbered-push names made.0 made.1 most most numbered (omega arith) (λ number same. absurd (implicit.0 number same))

pub sound-implied : (r : PlainRegistry) → IsSound r → (events : List Event) (names : Names) → names ≡ names_with r.rules r.names events → length (names_with r.rules r.names events) ≤ r.most_names → IsSound (record r { names = names })
sound-implied r sound events names is fits =
    subst (λ names. IsSound (record r { names = names })) (sym is)
    (sound-with r sound (names_with r.rules r.names events) r.explicit fits (numbered-added r.names (all_implied r.rules events) r.explicit (All-implied IsImplicit (λ event rule number same. absurd (cc)) r.rules events) sound.numbered))
