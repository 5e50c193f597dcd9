-- What producers ask leaves parts that agree with each other.
use Rattle.step_core.proofs.Prelude.{PlainQueue, append, Appended, high, bare, ◌≡◌, ◌∙◌, ap, subst, sym, refl, ℕ, ◌+◌, ◌≤◌, true, ◌||◌, List, [], ◌++◌, length, map, ◌==◌, nat_lt, arith, append-nil, Result, Err, AllocError, events_of, Performs, Event, StreamId, BATCH_EVENTS, between, Reply, PlainPartition, cond_both, Ok}
use Rattle.stream_model.specs.Publishing.{publish}
use Rattle.stream_model.specs.Step as plain
use Rattle.partition_queue.specs.declared.appended.Appended.TheVariants as appended
use Rattle.partition_queue.specs.Queue.{takes_memory}
use Rattle.step_core.specs.Assembly.{IsAssembled}
use Rattle.step_core.specs.PlainOf.{plain_of}
use Rattle.step_core.specs.Replies.{appended_reply, of_append}
use Rattle.step_core.specs.declared.parts.Parts.{Parts}
use Rattle.step_core.proofs.CachedEvents.{between-longer}
use Rattle.step_core.proofs.ProducerOps.{publish-parts}

-- the queue with more events at the end
pub record IsLonger (old new : PlainQueue) : Type 0 where
  pub more : List Event
  pub events : new.events ≡ old.events ++ more
  pub limit : new.limit ≡ old.limit

append-longer : (q : PlainQueue) (stream : StreamId) (payloads : List (List ℕ)) → IsLonger q (append q stream payloads).0
append-longer q stream payloads =
    let Longer : PlainQueue × Appended → Type 0 = λ out. IsLonger q out.0 in
    let same : IsLonger q q = record { more = []; events = sym (append-nil q.events); limit = refl } in
    cond_both ((length payloads == 0) || nat_lt BATCH_EVENTS (length payloads)) _ _ Longer (λ _. same)
    (λ _. cond_both (nat_lt q.limit (length q.events + length payloads)) _ _ Longer (λ _. same) (λ _. record { more = events_of stream q.batches 0 payloads; events = refl; limit = refl }))

pub append-assembled : (parts : Parts) (stream : StreamId) (payloads : List (List ℕ)) → high parts.agent.cache ≤ length parts.queue.events → IsAssembled parts → IsAssembled (record parts { queue = (append parts.queue stream payloads).0 })
append-assembled parts stream payloads end assembled =
    let longer = append-longer parts.queue stream payloads in
    record {
      most_subs = assembled.most_subs;
      most_rules = assembled.most_rules;
      most_events = longer.limit ∙ assembled.most_events;
      cached =
          assembled.cached
          ∙ ap (map bare)
          (sym (ap (λ log. between log parts.agent.cache.low (high parts.agent.cache)) longer.events
          ∙ between-longer parts.queue.events longer.more parts.agent.cache.low (high parts.agent.cache) (omega arith) end));
      numbered = assembled.numbered;
      known = assembled.known;
    }

-- what the queue did is the plain operation
pub append-performs : (parts : Parts) (stream : StreamId) (payloads : List (List ℕ)) (new : PlainQueue) (told : Appended) → IsAssembled parts → (new, told) ≡ append parts.queue stream payloads
    → (plain_of (record parts { queue = new }), of_append told) ≡ publish (plain_of parts) stream payloads
append-performs parts stream payloads new told assembled done =
    ap {B = PlainPartition × Reply} (λ (stepped : PlainQueue × Appended). (plain_of (record parts { queue = stepped.0 }), of_append stepped.1)) done
    ∙ sym (publish-parts parts stream payloads assembled.most_events)

pub appends : (parts : Parts) (stream : StreamId) (payloads : List (List ℕ)) (new : PlainQueue) (r : Result Appended AllocError) → IsAssembled parts → Performs parts.queue new r (append parts.queue stream payloads)
    → Performs (plain_of parts) (plain_of (record parts { queue = new })) (appended_reply r) (publish (plain_of parts) stream payloads)
appends parts stream payloads new (Ok told) assembled done = append-performs parts stream payloads new told assembled done
appends parts stream payloads new (Err e) assembled unchanged = ap (λ (q : PlainQueue). plain_of (record parts { queue = q })) unchanged

pub appends-assembled : (parts : Parts) (stream : StreamId) (payloads : List (List ℕ)) (new : PlainQueue) (r : Result Appended AllocError) → high parts.agent.cache ≤ length parts.queue.events → IsAssembled parts → Performs parts.queue new r (append parts.queue stream payloads)
    → IsAssembled (record parts { queue = new })
appends-assembled parts stream payloads new (Ok told) end assembled done =
    subst (λ (q : PlainQueue). IsAssembled (record parts { queue = q })) (sym (ap (λ (out : PlainQueue × Appended). out.0) done)) (append-assembled parts stream payloads end assembled)
appends-assembled parts stream payloads new (Err e) end assembled unchanged = subst (λ (q : PlainQueue). IsAssembled (record parts { queue = q })) (sym unchanged) assembled

-- only a batch that is accepted takes memory
accepted-memory : (told : Appended) → takes_memory told ≡ plain.takes_memory (of_append told)
accepted-memory (appended.Accepted seq) = refl
accepted-memory _ = refl

pub append-memory : (parts : Parts) (stream : StreamId) (payloads : List (List ℕ)) → IsAssembled parts → takes_memory (append parts.queue stream payloads).1 ≡ true → plain.takes_memory (publish (plain_of parts) stream payloads).1 ≡ true
append-memory parts stream payloads assembled takes =
    ap (λ (out : PlainPartition × Reply). plain.takes_memory out.1) (publish-parts parts stream payloads assembled.most_events)
    ∙ sym (accepted-memory (append parts.queue stream payloads).1)
    ∙ takes
