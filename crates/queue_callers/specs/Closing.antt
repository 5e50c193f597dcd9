-- The end of the turnstiles of a cluster.
use Rattle.std.specs.Prelude.{◌≡◌, ◌≢◌, ◌⊎◌, ℕ, zero, suc, ◌+◌, ◌<◌, ◌≤◌, List, [], ◌∷◌, length, map, AllPairs}
use Rattle.std.specs.List.{AllByRecursion}
use Rattle.stream_model.specs.declared.op.Op.{Op}
use Rattle.stream_model.specs.declared.plain.PlainPartition.{PlainPartition}
use Rattle.stream_model.specs.Replies.{Reply}
use Rattle.turnstile.specs.declared.history.Entry.{Entry}
use Rattle.turnstile.specs.Calls.{IsOf, numbers_of}
use Rattle.turnstile.specs.History.{IsLegal, Own, replay}
use Rattle.turnstile.specs.Passes.{Origin}
use Rattle.shared_partition.specs.Partitions.{BeganEmpty, LeavesLegal, TellsOneHistory, after, replied}
use Rattle.silo_loops.specs.Lines.{QueuePass}
use Rattle.queue_callers.specs.declared.closing.Closing.{Closing}
use Rattle.queue_callers.specs.declared.closing.Closing.TheVariants as closing
use Rattle.queue_callers.specs.declared.closing.Traces.{Traces}
use Rattle.queue_callers.specs.declared.closing.End.{End}
use Rattle.queue_callers.specs.declared.closing.End.TheVariants as end

-- The whole history of a queue is what its pass has seen, and each entry has a number of that pass, all of which
-- differ: no pass is missing. It is legal and within its limit, and the partition is its replay from the empty
-- partition of the start. So the headline holds of it, and each law of every legal history.
pub record IsTraceOf (p : QueuePass) (history : List (Entry Op Reply)) (partition : PlainPartition) : Type 0 where
  pub origin : Origin PlainPartition
  pub of : IsOf origin p
  pub empty : BeganEmpty origin.start
  pub whole : history ≡ p.seen
  pub bounded : length history ≤ origin.start.limit
  pub own : Own (numbers_of p) history
  pub differ : AllPairs (λ one other. one ≢ other) (numbers_of p)
  pub most : p.made ≤ length (numbers_of p)
  pub legal : IsLegal replied after origin.start.state history
  pub partition_is : partition ≡ replay replied after origin.start.state history
  pub headline : TellsOneHistory history
  pub stands : LeavesLegal origin.start history

-- there is such a trace
pub record HasTrace (p : QueuePass) : Type 0 where
  pub history : List (Entry Op Reply)
  pub partition : PlainPartition
  pub trace : IsTraceOf p history partition

-- so many passes are missing, and the pass knows of no more than those and its own
pub record IsMissing (p : QueuePass) (missing : ℕ) : Type 0 where
  pub some : 0 < missing
  pub most : p.made ≤ length (numbers_of p) + missing

-- the turnstile had its end: a trace, or passes are missing
abbrev pub HasEnd : QueuePass → Type 0
HasEnd p = HasTrace p ⊎ ((missing : ℕ) × IsMissing p missing)

-- So many passes are missing at this queue. Each queue before it has its trace, and each behind it its end: none was in
-- use.
abbrev pub IsMissingFirst : ℕ → ℕ → List QueuePass → Type 0
IsMissingFirst queue missing [] = ⊥
IsMissingFirst zero missing (p ∷ ps) = IsMissing p missing × AllByRecursion HasEnd ps
IsMissingFirst (suc queue) missing (p ∷ ps) = HasTrace p × IsMissingFirst queue missing ps

-- of each pass the history and the partition at its place
abbrev pub AreTraces : List QueuePass → List (List (Entry Op Reply)) → List PlainPartition → Type 0
AreTraces [] [] [] = Unit {0}
AreTraces (p ∷ ps) (history ∷ histories) (partition ∷ partitions) = IsTraceOf p history partition × AreTraces ps histories partitions
AreTraces _ _ _ = ⊥

module _ {H : Type 0} (entries : H → List (Entry Op Reply)) where
  -- the end of the turnstile of one pass
  abbrev pub IsEnd : QueuePass → End H → Type 0
  IsEnd p (end.Traced history partition) = IsTraceOf p (entries history) partition
  IsEnd p (end.NotAll missing) = IsMissing p missing
  IsEnd p end.InUse = Unit {0}

  -- of each pass the trace at its place
  abbrev pub AreTracesOf : List QueuePass → Traces H → Type 0
  AreTracesOf ps traces = AreTraces ps (map entries traces.histories.items) traces.partitions.items

  -- a trace of each queue, or the first queue with a missing pass, or, as `InUse`, nothing
  abbrev pub IsClosing : List QueuePass → Closing H → Type 0
  IsClosing ps (closing.Traced traces) = AreTracesOf ps traces
  IsClosing ps (closing.NotAll queue missing) = IsMissingFirst queue missing ps
  IsClosing ps closing.InUse = Unit {0}
