-- What producers ask, done by the parts.
use Rattle.step_core.proofs.Prelude.{PlainQueue, append, Appended, RuleAdded, ◌≡◌, ap, refl, ℕ, suc, ◌+◌, Bool, true, false, ◌&&◌, ◌||◌, List, [], ◌∷◌, ◌++◌, length, ◌==◌, nat_lt, nat_le, list_any, if◌then◌else◌, events_of, same_name, StreamId, BATCH_EVENTS, Rule, Reply, PlainPartition}
use Rattle.stream_model.specs.declared.reply.Reply.TheVariants as reply
use Rattle.stream_model.specs.Publishing.{publish, add_rule}
use Rattle.partition_queue.specs.declared.appended.Appended.TheVariants as appended
use Rattle.pubsub_registry.specs.Registry as registry
use Rattle.pubsub_registry.specs.declared.told.RuleAdded.TheVariants as rule_told
use Rattle.step_core.specs.declared.parts.Parts.{Parts}
use Rattle.step_core.specs.PlainOf.{plain_of}
use Rattle.step_core.specs.Replies.{of_append, of_rule}

abbrev with_queue : Parts → PlainQueue × Appended → PlainPartition × Reply
with_queue parts stepped = (plain_of (record parts { queue = stepped.0 }), of_append stepped.1)

pub publish-parts : (parts : Parts) (stream : StreamId) (payloads : List (List ℕ)) → parts.queue.limit ≡ parts.limits.events → publish (plain_of parts) stream payloads ≡ with_queue parts (append parts.queue stream payloads)
unfolding publish
publish-parts parts stream payloads limit =
    by ((length payloads == 0) || nat_lt BATCH_EVENTS (length payloads))
    (nat_lt parts.limits.events (length parts.queue.events + length payloads))
    (nat_lt parts.queue.limit (length parts.queue.events + length payloads))
    (ap (λ most. nat_lt most (length parts.queue.events + length payloads)) limit)
  where
    added : PlainQueue
    added = record { events = parts.queue.events ++ events_of stream parts.queue.batches 0 payloads; batches = suc parts.queue.batches; limit = parts.queue.limit }

    by : (bad full full' : Bool) → full' ≡ full
        → (if bad then (plain_of parts, reply.BadBatch) else if full then (plain_of parts, reply.QueueFull) else (plain_of (record parts { queue = added }), reply.Published parts.queue.batches))
        ≡ with_queue parts (if bad then (parts.queue, appended.BadBatch) else if full' then (parts.queue, appended.QueueFull) else (added, appended.Accepted parts.queue.batches))
    by true full full' same = refl
    by false true full' same = rw same refl
    by false false full' same = rw same refl

abbrev with_registry : Parts → registry.PlainRegistry × RuleAdded → PlainPartition × Reply
with_registry parts stepped = (plain_of (record parts { subs = record parts.subs { registry = stepped.0 } }), of_rule parts.queue.batches stepped.1)

pub rule-parts : (parts : Parts) (kind namespace : List ℕ) → parts.subs.registry.most_rules ≡ parts.limits.rules → add_rule (plain_of parts) kind namespace ≡ with_registry parts (registry.add_rule parts.subs.registry kind namespace parts.queue.batches)
unfolding add_rule
rule-parts parts kind namespace limit =
    by (list_any (λ (rule : Rule). same_name kind rule.kind && same_name namespace rule.namespace) parts.subs.registry.rules)
    (nat_le parts.limits.rules (length parts.subs.registry.rules))
    (nat_le parts.subs.registry.most_rules (length parts.subs.registry.rules))
    (ap (λ most. nat_le most (length parts.subs.registry.rules)) limit)
  where
    added : registry.PlainRegistry
    added = record parts.subs.registry { rules = parts.subs.registry.rules ++ record { kind = kind; namespace = namespace; from = parts.queue.batches } ∷ [] }

    by : (there full full' : Bool) → full' ≡ full
        → (if there then (plain_of parts, reply.RuleThere) else if full then (plain_of parts, reply.TooMany) else (plain_of (record parts { subs = record parts.subs { registry = added } }), reply.RuleAdded parts.queue.batches))
        ≡ with_registry parts (if there then (parts.subs.registry, rule_told.RuleThere) else if full' then (parts.subs.registry, rule_told.TooMany) else (added, rule_told.Added))
    by true full full' same = refl
    by false true full' same = rw same refl
    by false false full' same = rw same refl
