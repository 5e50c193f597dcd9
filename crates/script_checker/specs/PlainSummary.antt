-- A summary as contracts see it.
use Rattle.std.specs.Prelude.{ℕ, List}
use Rattle.stream_ident.specs.declared.ident.StreamId.{StreamId}

-- the number of queues, how many lines each verb has, by the verbs' numbers, and the streams that lines name, each with
-- its queue
pub record PlainSummary : Type 0 where
  pub queues : ℕ
  pub counts : List ℕ
  pub streams : List (StreamId × ℕ)
