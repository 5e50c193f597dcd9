-- Where a worker is, and what it does next.
use Rattle.std.specs.Prelude.{◌≡◌, ℕ, List, drop, Some, Result, Ok, slice_get}
use Rattle.stream_ident.specs.declared.event.Event.{Event}
use Rattle.stream_ident.specs.declared.ident.GrainId.{GrainId}
use Rattle.stream_ident.specs.declared.ident.SubName.{SubName}
use Rattle.stream_ident.specs.declared.token.Token.{Token}
use Rattle.stream_model.specs.declared.op.Op.{Op}
use Rattle.stream_model.specs.declared.op.Op.TheVariants.{Begin}
use Rattle.stream_model.specs.declared.reply.Reply.TheVariants as reply
use Rattle.activation_directory.specs.declared.op.DirectoryOp.TheVariants as asked
use Rattle.activation_directory.specs.declared.reply.DirectoryReply.{DirectoryReply}
use Rattle.activation_directory.specs.declared.reply.DirectoryReply.TheVariants as directory
use Rattle.turnstile.specs.declared.turnstile.Refusal.{Refusal}
use Rattle.silo_loops.specs.declared.heard.Heard.{Heard}
use Rattle.silo_loops.specs.declared.heard.Heard.TheVariants as heard
use Rattle.silo_loops.specs.declared.worker_walk.Step.{Step}
use Rattle.silo_loops.specs.declared.worker_walk.Step.TheVariants as step
use Rattle.silo_loops.specs.Lines.{DirectoryPass, LineView, QueuePass}
use Rattle.silo_loops.specs.Passes.{LastOwn}

-- What a worker has in hand: nothing; a turn of this queue, with the events that the handler is still to have, and the
-- note for the next of them; a commit at this queue to tell of.
pub data Work : Type 0 where
  Nothing : Work
  Turning : ℕ → List Event → ℕ → Work
  Telling : ℕ → SubName → Token → Work

-- a worker with nothing in hand and no permit
abbrev pub IsFree : Step → Type 0
IsFree step.Rest = Unit {0}
IsFree step.Look = Unit {0}
IsFree (step.Enter grain) = Unit {0}
IsFree _ = ⊥

abbrev pub work_in : ℕ → Step → List Event → Work
work_in at (step.Handle grain permit turn) events = Turning at (drop turn.next events) turn.note
work_in at (step.Tell grain permit sub token) events = Telling at sub token
work_in at _ events = Nothing

-- the pass entered the grain with this permit, and has made no call since
abbrev pub Keeps : DirectoryPass → GrainId → ℕ → Type 0
Keeps d grain permit = (silo : ℕ) × LastOwn d (asked.Enter grain silo) (directory.Entered permit)

-- the last call of the pass began this turn of the grain, for this subscription
abbrev pub Runs : QueuePass → GrainId → SubName → ℕ → ℕ → Type 0
Runs p grain sub activation turn =
    (most : ℕ) × (events : List Event) × (note : ℕ) × LastOwn p (Begin grain most) (reply.Turn sub activation turn events note)

-- the last call of the pass committed a turn
abbrev pub HasCommitted : QueuePass → SubName → Token → Type 0
HasCommitted p sub token = (op : Op) × LastOwn p op (reply.Committed sub token)

-- what a worker knows of its passes by what it does next
abbrev pub Fits : Step → DirectoryPass → QueuePass → Type 0
Fits (step.Begin grain permit) d p = Keeps d grain permit
Fits (step.Handle grain permit turn) d p = Keeps d grain permit × Runs p grain turn.sub turn.activation turn.number
Fits (step.Tell grain permit sub token) d p = Keeps d grain permit × HasCommitted p sub token
Fits (step.Again grain permit) d p = Keeps d grain permit
Fits (step.Leave grain permit) d p = Keeps d grain permit
Fits _ d p = Unit {0}

-- the worker is at one of its queues, and what it does next fits what its passes have done there
pub record IsAt (at : ℕ) (step : Step) (lines : List LineView) (d : DirectoryPass) : Type 0 where
  pub line : LineView
  pub had : slice_get lines at ≡ Some line
  pub fits : Fits step d line.pass

-- a worker: its silo, its lines in queue order, its pass at the directory, at which queue it is, what it does next, and the
-- events of its turn
pub record WorkerState : Type 0 where
  pub silo : ℕ
  pub lines : List LineView
  pub directory : DirectoryPass
  pub at : ℕ
  pub step : Step
  pub events : List Event

abbrev pub step_after_enter : GrainId → Result DirectoryReply Refusal → Step
step_after_enter grain (Ok (directory.Entered permit)) = step.Begin grain permit
step_after_enter grain _ = step.Look

abbrev pub step_after_begin : GrainId → ℕ → Heard → Step
step_after_begin grain permit (heard.Turn sub activation turn note) =
    step.Handle grain permit (record { sub = sub; activation = activation; number = turn; note = note; next = 0 })
step_after_begin grain permit _ = step.Leave grain permit

abbrev pub step_after_commit : GrainId → ℕ → Heard → Step
step_after_commit grain permit (heard.Committed sub token) = step.Tell grain permit sub token
step_after_commit grain permit _ = step.Leave grain permit
