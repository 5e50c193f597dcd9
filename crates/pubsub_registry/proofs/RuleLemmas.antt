-- The rows of rules by namespace, with a rule put in.
use Rattle.pubsub_registry.proofs.Prelude.{◌≡◌, ◌∙◌, ℕ, Bool, true, false, List, [], ◌∷◌, ◌++◌, filter, if◌then◌else◌, refl, sym, ap, true≢false, false_from_ne_true, append-nil, filter-append, same_name-equal, same_name-refl, same_name, Rule}

abbrev pub on : List ℕ → List Rule → List Rule
on namespace rules = filter (λ (rule : Rule). same_name namespace rule.namespace) rules

pub ruled-push : (old new : List ℕ → List Rule) (rules : List Rule) (rule : Rule) → ((namespace : List ℕ) → old namespace ≡ on namespace rules)
    → ((namespace : List ℕ) → new namespace ≡ (if same_name rule.namespace namespace then old rule.namespace ++ rule ∷ [] else old namespace))
    → (namespace : List ℕ) → new namespace ≡ on namespace (rules ++ rule ∷ [])
ruled-push old new rules rule ruled puts namespace =
    puts namespace ∙ by (same_name rule.namespace namespace) refl
    ∙ sym (filter-append (λ (rule : Rule). same_name namespace rule.namespace) rules (rule ∷ []))
  where
    by : (b : Bool) → same_name rule.namespace namespace ≡ b → (if b then old rule.namespace ++ rule ∷ [] else old namespace) ≡ on namespace rules ++ on namespace (rule ∷ [])
    by true same =
        let equal = same_name-equal rule.namespace namespace same in
        let own : same_name namespace rule.namespace ≡ true = ap (same_name namespace) equal ∙ same_name-refl namespace in
        ap (λ rules. rules ++ rule ∷ []) (ruled rule.namespace ∙ ap (λ (namespace : List ℕ). on namespace rules) equal)
        ∙ ap (λ test. on namespace rules ++ (if test then rule ∷ [] else [])) (sym own)
    by false apart =
        let other : same_name namespace rule.namespace ≡ false = false_from_ne_true _ (λ same. true≢false (sym (same_name-refl rule.namespace) ∙ ap (same_name rule.namespace) (sym (same_name-equal namespace rule.namespace same)) ∙ apart)) in
        ruled namespace ∙ sym (append-nil (on namespace rules)) ∙ ap (λ test. on namespace rules ++ (if test then rule ∷ [] else [])) (sym other)
