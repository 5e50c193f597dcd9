-- The replies of a partition, from what its parts tell.
use Rattle.std.specs.Prelude.{ℕ, Result, Ok, Err, if◌then◌else◌}
use Rattle.std.specs.declared.alloc.AllocError.{AllocError}
use Rattle.stream_model.specs.declared.plain.PlainPartition.{PlainPartition}
use Rattle.stream_model.specs.Pulling.{is_stale}
use Rattle.stream_model.specs.Replies.{Reply}
use Rattle.stream_model.specs.declared.reply.Reply.TheVariants as reply
use Rattle.partition_queue.specs.declared.appended.Appended.{Appended}
use Rattle.partition_queue.specs.declared.appended.Appended.TheVariants as appended
use Rattle.pubsub_registry.specs.declared.told.RuleAdded.{RuleAdded}
use Rattle.pubsub_registry.specs.declared.told.RuleAdded.TheVariants as rule_told
use Rattle.pulling_agent.specs.declared.told.Acked.{Acked}
use Rattle.pulling_agent.specs.declared.told.Acked.TheVariants as ack_told
use Rattle.pulling_agent.specs.declared.told.Retried.{Retried}
use Rattle.pulling_agent.specs.declared.told.Retried.TheVariants as retry_told

-- the reply to the producer of a batch, by what its queue answered
abbrev pub of_append : Appended → Reply
of_append (appended.Accepted seq) = reply.Published seq
of_append appended.BadBatch = reply.BadBatch
of_append appended.QueueFull = reply.QueueFull

-- the reply to the producer of a batch, by the result of the call
abbrev pub appended_reply : Result Appended AllocError → Result Reply AllocError
appended_reply (Ok appended) = Ok (of_append appended)
appended_reply (Err e) = Err e

abbrev pub of_rule : ℕ → RuleAdded → Reply
of_rule from rule_told.Added = reply.RuleAdded from
of_rule from rule_told.RuleThere = reply.RuleThere
of_rule from rule_told.TooMany = reply.TooMany

abbrev pub of_retry : Retried → Reply
of_retry retry_told.Closed = reply.Closed
of_retry retry_told.Rewound = reply.Rewound

abbrev pub of_ack : Acked → Reply
of_ack ack_told.Closed = reply.Closed
of_ack ack_told.NotHandled = reply.NotHandled
of_ack ack_told.Acked = reply.Acked

-- the reply to an agent that asks of a name without a subscription
abbrev pub unknown : PlainPartition → ℕ → Reply
unknown p generation = if is_stale p generation then reply.StaleAgent p.generation else reply.NoSuch
