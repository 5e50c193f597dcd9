-- Lines: a loop's passes, and how much they had seen when the loop was last idle.
use Rattle.std.specs.Prelude.{◌≡◌, ◌↔◌, ℕ, ◌≤◌, Bool, true, false, List, length, map, Option, Some, Result, slice_get, slice_set}
use Rattle.stream_model.specs.declared.op.Op.{Op}
use Rattle.stream_model.specs.declared.op.Op.TheVariants.{Pull, Ready}
use Rattle.stream_model.specs.declared.plain.PlainPartition.{PlainPartition}
use Rattle.stream_model.specs.Replies.{Reply}
use Rattle.stream_model.specs.Producers.{is_producer}
use Rattle.activation_directory.specs.declared.op.DirectoryOp.{DirectoryOp}
use Rattle.activation_directory.specs.declared.reply.DirectoryReply.{DirectoryReply}
use Rattle.activation_directory.specs.Plain.{PlainDirectory}
use Rattle.shared_partition.specs.Directories as directory
use Rattle.shared_partition.specs.Partitions.{LeavesLegal, TellsOneHistory, after, replied}
use Rattle.turnstile.specs.declared.turnstile.Refusal.{Refusal}
use Rattle.turnstile.specs.Calls.{numbers_of}
use Rattle.turnstile.specs.Passes.{Origin, PassView}
use Rattle.stream_ident.specs.declared.event.Event.{Event}
use Rattle.stream_ident.specs.declared.limits.TheConstants.{TURN_EVENTS}
use Rattle.silo_loops.specs.declared.heard.Heard.{Heard}
use Rattle.silo_loops.specs.Answers.{heard_of, end_of, events_after}
use Rattle.silo_loops.specs.Passes.{CallsBy, HasOwnPast, IsAtLimit, OwnsNone}

-- a pass at a queue, and one at the directory
abbrev pub QueuePass : Type 0
QueuePass = PassView Op Reply PlainPartition

abbrev pub DirectoryPass : Type 0
DirectoryPass = PassView DirectoryOp DirectoryReply PlainDirectory

-- a loop's pass at a queue, and how much it had seen when the loop was made or last idle
pub record LineView : Type 0 where
  pub pass : QueuePass
  pub mark : ℕ

abbrev pub is_ready : Op → Bool
is_ready (Ready last) = true
is_ready _ = false

abbrev pub is_pull : Op → Bool
is_pull (Pull generation max) = true
is_pull _ = false

-- no call of the pass, those of passes joined to it included, is a producer's
abbrev pub NeverProduces : QueuePass → Type 0
NeverProduces p = OwnsNone is_producer (numbers_of p) p.seen

-- past its mark the pass has asked for a ready grain
abbrev pub HasLooked : LineView → Type 0
HasLooked l = HasOwnPast is_ready l.mark l.pass

-- past its mark the pass has pulled
abbrev pub HasPulled : LineView → Type 0
HasPulled l = HasOwnPast is_pull l.mark l.pass

-- a limit has ended a loop at one of its queues
abbrev pub LineIsAtLimit : List LineView → Type 0
LineIsAtLimit lines = (queue : ℕ) × (l : LineView) × (slice_get lines queue ≡ Some l) × IsAtLimit end_of l.pass

-- what a line keeps, beside what it is of
pub record IsKept (l : LineView) (looked pulled : Bool) : Type 0 where
  pub never : NeverProduces l.pass
  pub marked : l.mark ≤ length l.pass.seen
  pub has_looked : (looked ≡ true) ↔ HasLooked l
  pub has_pulled : (pulled ≡ true) ↔ HasPulled l

-- all that a line has seen is its mark
abbrev pub rested : LineView → LineView
rested l = record l { mark = length l.pass.seen }

-- One call by the pass of a line at its queue. Of all that it has seen then the headline holds, and each law
-- of every legal history.
pub record CallsOn (l : LineView) (op : Op) (result : Result Reply Refusal) (m : LineView) : Type 0 where
  pub mark : m.mark ≡ l.mark
  pub call : CallsBy replied after l.pass op result m.pass
  pub headline : TellsOneHistory m.pass.seen
  pub stands : LeavesLegal call.origin.start m.pass.seen

-- One call by a pass at the directory. In all that it has seen then one permit of a grain is out at a time, and each law
-- of every legal history holds of it.
pub record DirectoryCalls (d : DirectoryPass) (op : DirectoryOp) (result : Result DirectoryReply Refusal) (e : DirectoryPass) : Type 0 where
  pub call : CallsBy directory.replied directory.after d op result e
  pub permit : directory.TellsOnePermit e.seen
  pub stands : directory.LeavesLegal call.origin.start e.seen

-- one call by the pass of a line, of whose result the loop takes an answer and, where there is room, the events of
-- a turn in the place of those before
pub record Hears (l : LineView) (op : Op) (m : LineView) (room : ℕ) (old new : List Event) (answer : Heard) : Type 0 where
  pub result : Result Reply Refusal
  pub calls : CallsOn l op result m
  pub heard : answer ≡ heard_of result
  pub kept : TURN_EVENTS ≤ room → new ≡ events_after result old

-- one call by the pass at one queue; the other lines are as they were
pub record CallsAt (lines : List LineView) (at : ℕ) (op : Op) (result : Result Reply Refusal) (new : List LineView) : Type 0 where
  pub was : LineView
  pub is : LineView
  pub had : slice_get lines at ≡ Some was
  pub whole : new ≡ slice_set lines at is
  pub calls : CallsOn was op result is

-- the same at one queue
pub record HearsAt (lines : List LineView) (at : ℕ) (op : Op) (new : List LineView) (room : ℕ) (old fresh : List Event) (answer : Heard) : Type 0 where
  pub result : Result Reply Refusal
  pub calls : CallsAt lines at op result new
  pub heard : answer ≡ heard_of result
  pub kept : TURN_EVENTS ≤ room → fresh ≡ events_after result old

-- the turnstiles of these lines, in their order
abbrev pub places : List LineView → List (Option (Origin PlainPartition))
places lines = map (λ (l : LineView). l.pass.turnstile) lines
