-- The names with those that the rules make of events: their front, and how many they are.
use Rattle.pubsub_registry.proofs.Prelude.{◌≡◌, ◌∙◌, ℕ, zero, suc, ◌+◌, ◌*◌, ◌<◌, ◌≤◌, not, Bool, true, false, List, [], ◌∷◌, ◌++◌, length, take, get_or, get_or_default, fold, if◌then◌else◌, refl, ap, arith, length-append, le-ltb, fold-append, sum_by-cons, flat_map, added-more, has, length-fold, batch_token, added, same_name, token_lt, Event, SubName, Rule}
use Rattle.std.proofs.lemmas.List.Filters.{length-filter_both}
use Rattle.stream_ident.specs.declared.limits.TheConstants.{MOST_RULES}
use Rattle.pubsub_registry.specs.Implying.{all_implied, implied, imply, made, names_with, rule_count}
use Rattle.pubsub_registry.specs.Registry.{PlainRegistry}
use Rattle.pubsub_registry.specs.declared.told.Implied.{Implied}
use Rattle.pubsub_registry.specs.declared.told.Implied.TheVariants as implied_told
use Rattle.pubsub_registry.specs.declared.registration.Registration.{Registration}
use Rattle.pubsub_registry.proofs.Entries.{Names}
use Rattle.pubsub_registry.proofs.ImpliedNames.{implied-on}
use Rattle.pubsub_registry.proofs.RuleLemmas.{on}

-- ---- the front

-- without rules nothing is done
pub nothing-implied : (r : PlainRegistry) (events : List Event) → r.rules ≡ [] → length r.names ≤ r.most_names → ◌≡◌ {A = PlainRegistry × Implied} (r, implied_told.Implied) (imply r events)
nothing-implied r events none fits =
    let same : names_with r.rules r.names events ≡ r.names = ap (λ (rules : List Rule). names_with rules r.names events) none ∙ ap (fold added r.names) (nothing events) in
    rw (same, le-ltb r.most_names (length r.names) fits) refl
  where
    nothing : (events : List Event) → all_implied [] events ≡ []
    nothing [] = refl
    nothing (event ∷ events) = nothing events

-- ---- how many there are

-- what the first items make is no more than what all make
pub length-front : {X : Type 0} (make : X → Names) (names : Names) (xs : List X) (n : ℕ) → length (fold added names (flat_map make (take n xs))) ≤ length (fold added names (flat_map make xs))
length-front make names xs zero = length-fold names (flat_map make xs)
length-front make names [] (suc n) = omega arith
length-front make names (x ∷ xs) (suc n) =
    omega (
      arith,
      length-front make (fold added names (make x)) xs n,
      ap length (fold-append added names (make x) (flat_map make (take n xs))),
      ap length (fold-append added names (make x) (flat_map make xs)),
    )

-- where an item makes a name that is new, all make one
pub more-at : {X : Type 0} (make : X → Names) (names so_far : Names) (xs : List X) (i : ℕ) (d x : X) → i < length xs → x ≡ get_or xs i d → so_far ≡ fold added names (flat_map make (take i xs))
    → length so_far < length (fold added so_far (make x)) → length names < length (fold added names (flat_map make xs))
more-at make names so_far xs i d x within is are more =
    omega (
      arith,
      length-fold names (flat_map make (take i xs)),
      ap length are,
      more,
      ap length (added-more make names xs i x within (is ∙ get_or_default xs i d x within)),
      ap (λ (all : Names). length (fold added all (make x))) are,
      length-front make names xs (i + 1),
    )

length-added : (names : Names) (entry : SubName × Registration) → length (added names entry) ≤ length names + 1
length-added names entry = by (has entry.0 names)
  where
    by : (there : Bool) → length (if there then names else names ++ entry ∷ []) ≤ length names + 1
    by true = omega arith
    by false = omega (arith, length-append names (entry ∷ []))

most-fold : (names entries : Names) → length (fold added names entries) ≤ length names + length entries
most-fold names [] = omega arith
most-fold names (entry ∷ entries) = omega (arith, most-fold (added names entry) entries, length-added names entry)

most-made : (event : Event) (rules : List Rule) → length (flat_map (made event) rules) ≤ length rules
most-made event [] = omega arith
most-made event (rule ∷ rules) = omega (arith, most-made event rules, one, length-append (made event rule) (flat_map (made event) rules))
  where
    by : (holds : Bool) (entry : SubName × Registration) → length (if holds then entry ∷ [] else []) ≤ 1
    by true entry = omega arith
    by false entry = omega arith

    one : length (made event rule) ≤ 1
    one = by (not (token_lt event.token (batch_token rule.from))) _

most-implied : (rules : List Rule) (events : List Event) → length (all_implied rules events) ≤ rule_count rules events
most-implied rules [] = omega arith
most-implied rules (event ∷ events) =
    omega (
      arith,
      most-implied rules events,
      most-made event (on event.stream.namespace rules),
      ap length (implied-on event rules),
      length-append (flat_map (implied event) rules) (all_implied rules events),
      sum_by-cons (λ (event : Event). length (on event.stream.namespace rules)) event events,
    )

-- at most one for each rule on the namespace of each event
pub most-names_with : (rules : List Rule) (names : Names) (events : List Event) → length (names_with rules names events) ≤ length names + rule_count rules events
most-names_with rules names events =
    omega (arith, most-fold names (all_implied rules events), most-implied rules events)

pub length-on : (namespace : List ℕ) (rules : List Rule) → length (on namespace rules) ≤ length rules
length-on namespace rules =
    omega (arith, length-filter_both (λ (rule : Rule). same_name namespace rule.namespace) (λ (rule : Rule). not (same_name namespace rule.namespace)) (λ _. refl) rules)

pub few-rule_count : (rules : List Rule) (events : List Event) → length rules ≤ MOST_RULES → rule_count rules events ≤ MOST_RULES * length events
few-rule_count rules [] few = omega arith
few-rule_count rules (event ∷ events) few =
    omega (
      arith,
      few-rule_count rules events few,
      length-on event.stream.namespace rules,
      sum_by-cons (λ (event : Event). length (on event.stream.namespace rules)) event events,
    )
