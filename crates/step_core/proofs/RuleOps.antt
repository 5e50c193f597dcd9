-- A rule that is added leaves parts that agree with each other.
use Rattle.step_core.proofs.Prelude.{RuleAdded, ◌≡◌, ◌∙◌, ap, sym, subst, refl, ℕ, true, ◌&&◌, List, [], ◌∷◌, ◌++◌, length, nat_le, cond_both, list_any, same_name, Rule, Reply, takes_memory, PlainPartition, PlainTable}
use Rattle.stream_model.specs.Publishing as plain
use Rattle.pubsub_registry.specs.Registry as registry
use Rattle.pubsub_registry.specs.declared.told.RuleAdded.TheVariants as rule_told
use Rattle.subscription_table.specs.Table.{add_rule}
use Rattle.step_core.specs.Assembly.{IsAssembled}
use Rattle.step_core.specs.Known.{AreKnown}
use Rattle.step_core.specs.PlainOf.{plain_of}
use Rattle.step_core.specs.Replies.{of_rule}
use Rattle.step_core.specs.declared.parts.Parts.{Parts}
use Rattle.step_core.proofs.AssembledTable.{IsAsLarge, assembled-subs}
use Rattle.step_core.proofs.ProducerOps.{rule-parts}

-- the names are as before, and the room
abbrev Keeps : PlainTable → registry.PlainRegistry × RuleAdded → Type 0
Keeps t out = (out.0.names ≡ t.registry.names) × IsAsLarge t (record t { registry = out.0 })

add_rule-keeps : (t : PlainTable) (kind namespace : List ℕ) (seq : ℕ) → Keeps t (registry.add_rule t.registry kind namespace seq)
add_rule-keeps t kind namespace seq =
    cond_both (list_any (λ (rule : Rule). same_name kind rule.kind && same_name namespace rule.namespace) t.registry.rules) _ _ (Keeps t) (λ _. kept t.registry.rules)
    (λ _. cond_both (nat_le t.registry.most_rules (length t.registry.rules)) _ _ (Keeps t) (λ _. kept t.registry.rules) (λ _. kept (t.registry.rules ++ record { kind = kind; namespace = namespace; from = seq } ∷ [])))
  where
    kept : (rules : List Rule) → (t.registry.names ≡ t.registry.names) × IsAsLarge t (record t { registry = record t.registry { rules = rules } })
    kept rules = (refl, record { names = refl; most_names = refl; most_rules = refl })

pub rule-assembled : (parts : Parts) (kind namespace : List ℕ) (seq : ℕ) → IsAssembled parts → IsAssembled (record parts { subs = (add_rule parts.subs kind namespace seq).0 })
rule-assembled parts kind namespace seq assembled =
    let keeps = add_rule-keeps parts.subs kind namespace seq in
    assembled-subs parts (add_rule parts.subs kind namespace seq).0 keeps.1
    (subst (λ names. AreKnown names parts.subs.states parts.grains) (sym keeps.0) assembled.known)
    assembled

abbrev told_by : Parts → PlainTable × RuleAdded → PlainPartition × Reply
told_by parts stepped = (plain_of (record parts { subs = stepped.0 }), of_rule parts.queue.batches stepped.1)

-- what the table did is the plain operation
rule-same : (parts : Parts) (kind namespace : List ℕ) → IsAssembled parts → told_by parts (add_rule parts.subs kind namespace parts.queue.batches) ≡ plain.add_rule (plain_of parts) kind namespace
rule-same parts kind namespace assembled = sym (rule-parts parts kind namespace assembled.most_rules)

pub rule-performs : (parts : Parts) (kind namespace : List ℕ) (from : ℕ) (new : PlainTable) (told : RuleAdded) → IsAssembled parts → from ≡ parts.queue.batches → (new, told) ≡ add_rule parts.subs kind namespace from
    → (plain_of (record parts { subs = new }), of_rule from told) ≡ plain.add_rule (plain_of parts) kind namespace
rule-performs parts kind namespace from new told assembled is_from done =
    ap {B = PlainPartition × Reply} (λ n. (plain_of (record parts { subs = new }), of_rule n told)) is_from
    ∙ ap (told_by parts) (done ∙ ap (add_rule parts.subs kind namespace) is_from)
    ∙ rule-same parts kind namespace assembled

-- only a rule that is added takes memory
pub rule-memory : (parts : Parts) (kind namespace : List ℕ) (from : ℕ) → IsAssembled parts → from ≡ parts.queue.batches → (add_rule parts.subs kind namespace from).1 ≡ rule_told.Added → takes_memory (plain.add_rule (plain_of parts) kind namespace).1 ≡ true
rule-memory parts kind namespace from assembled is_from added =
    ap (λ (out : PlainPartition × Reply). takes_memory out.1) (sym (rule-same parts kind namespace assembled))
    ∙ ap (λ told. takes_memory (of_rule parts.queue.batches told)) (ap (λ n. (add_rule parts.subs kind namespace n).1) (sym is_from) ∙ added)
