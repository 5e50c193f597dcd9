-- What an added rule leaves and answers, case by case.
use Rattle.partition_reference.proofs.Prelude.{◌≡◌, ℕ, ◌<◌, ◌≤◌, ◌&&◌, Bool, true, false, List, [], ◌∷◌, ◌++◌, length, refl, sym, ap, ◌∙◌, le-leb, lt-leb, list_any, same_name, Reply, takes_memory, PlainPartition}
use Rattle.stream_ident.specs.declared.rule.Rule.{Rule}
use Rattle.stream_model.specs.declared.reply.Reply.TheVariants as reply
use Rattle.stream_model.specs.Publishing.{add_rule}

-- one of the rules is of this kind and namespace
abbrev pub is_among : List ℕ → List ℕ → List Rule → Bool
is_among kind namespace rules = list_any (λ (rule : Rule). same_name kind rule.kind && same_name namespace rule.namespace) rules

pub add_rule-there : (p : PlainPartition) (kind namespace : List ℕ) → is_among kind namespace p.rules ≡ true → (p, reply.RuleThere) ≡ add_rule p kind namespace
unfolding add_rule
add_rule-there p kind namespace there = rw there refl

pub add_rule-full : (p : PlainPartition) (kind namespace : List ℕ) → is_among kind namespace p.rules ≡ false → p.limits.rules ≤ length p.rules → (p, reply.TooMany) ≡ add_rule p kind namespace
unfolding add_rule
add_rule-full p kind namespace new full =
    let test = le-leb p.limits.rules (length p.rules) full in rw (new, test) refl

add_rule-fits : (p : PlainPartition) (kind namespace : List ℕ) → is_among kind namespace p.rules ≡ false → length p.rules < p.limits.rules
    → add_rule p kind namespace ≡ (record p { rules = p.rules ++ record { kind = kind; namespace = namespace; from = p.batches } ∷ [] }, reply.RuleAdded p.batches)
unfolding add_rule
add_rule-fits p kind namespace new fits =
    let test = lt-leb p.limits.rules (length p.rules) fits in rw (new, test) refl

pub add_rule-done : (p : PlainPartition) (kind namespace : List ℕ) (rules : List Rule) → is_among kind namespace p.rules ≡ false → length p.rules < p.limits.rules
    → rules ≡ p.rules ++ record { kind = kind; namespace = namespace; from = p.batches } ∷ [] → (record p { rules = rules }, reply.RuleAdded p.batches) ≡ add_rule p kind namespace
add_rule-done p kind namespace rules new fits is_rules =
    ap {B = PlainPartition × Reply} (λ (rules : List Rule). (record p { rules = rules }, reply.RuleAdded p.batches)) is_rules
    ∙ sym (add_rule-fits p kind namespace new fits)

-- a rule that fits wants memory
pub add_rule-takes_memory : (p : PlainPartition) (kind namespace : List ℕ) → is_among kind namespace p.rules ≡ false → length p.rules < p.limits.rules → takes_memory (add_rule p kind namespace).1 ≡ true
add_rule-takes_memory p kind namespace new fits =
    ap (λ (stepped : PlainPartition × Reply). takes_memory stepped.1) (add_rule-fits p kind namespace new fits)
