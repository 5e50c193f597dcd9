-- What a worker may do.
use Rattle.std.specs.Prelude.{◌≡◌, ℕ, ◌+◌, ◌⊎◌, List, [], ◌∷◌, Bool, true, Option, Some, None, Result, Ok, slice_get, map, All}
use Rattle.stream_ident.specs.declared.event.Event.{Event}
use Rattle.stream_ident.specs.declared.ident.GrainId.{GrainId}
use Rattle.stream_ident.specs.declared.ident.SubName.{SubName}
use Rattle.stream_ident.specs.declared.limits.TheConstants.{TURN_EVENTS}
use Rattle.stream_model.specs.declared.op.Op.{Op}
use Rattle.stream_model.specs.declared.op.Op.TheVariants as op
use Rattle.stream_model.specs.Replies.{Reply}
use Rattle.stream_model.specs.declared.reply.Reply.TheVariants as reply
use Rattle.activation_directory.specs.declared.op.DirectoryOp.{DirectoryOp}
use Rattle.activation_directory.specs.declared.op.DirectoryOp.TheVariants as asked
use Rattle.activation_directory.specs.declared.reply.DirectoryReply.{DirectoryReply}
use Rattle.turnstile.specs.declared.turnstile.Refusal.{Refusal}
use Rattle.silo_loops.specs.declared.advance.Advance.{Advance}
use Rattle.silo_loops.specs.declared.advance.Advance.TheVariants as advance
use Rattle.doorbells.specs.declared.loop_end.Over as why
use Rattle.doorbells.specs.declared.loop_end.Over.TheVariants as over
use Rattle.silo_loops.specs.Answers.{end_of, end_of_asking}
use Rattle.silo_loops.specs.Lines.{CallsAt, DirectoryCalls, DirectoryPass, HasLooked, LineIsAtLimit, LineView, QueuePass, is_ready, places, rested}
use Rattle.silo_loops.specs.Passes.{IsAtLimit}
use Rattle.silo_loops.specs.Chains.{Goes}
use Rattle.silo_loops.specs.Walks.{HasCommitted, Keeps, Nothing, Runs, Telling, Turning, Work, WorkerState, work_in}

-- the loop of a worker: its silo, its lines in queue order, its pass at the directory, what it has in hand, how many more
-- rounds it may begin, and why it has ended
pub record WorkerView : Type 0 where
  pub silo : ℕ
  pub lines : List LineView
  pub directory : DirectoryPass
  pub work : Work
  pub rounds : ℕ
  pub over : Option why.Over

-- What a worker may ask of a queue: which grain is ready; a turn of a grain whose permit it keeps; the end of the
-- turn that it began.
abbrev pub WorkerMay : DirectoryPass → QueuePass → Op → Type 0
WorkerMay d p (op.Ready last) = Unit {0}
WorkerMay d p (op.Begin grain most) = (most ≡ TURN_EVENTS) × ((permit : ℕ) × Keeps d grain permit)
WorkerMay d p (op.Commit grain activation turn note) = (sub : SubName) × Runs p grain sub activation turn
WorkerMay d p _ = ⊥

-- What it may ask of the directory: a permit for its silo, and to give back the one that it keeps.
abbrev pub WorkerMayAsk : ℕ → DirectoryPass → DirectoryOp → Type 0
WorkerMayAsk own d (asked.Enter grain silo) = silo ≡ own
WorkerMayAsk own d (asked.Leave grain permit) = Keeps d grain permit
WorkerMayAsk own d _ = ⊥

-- what the answer to a Begin puts in hand, and the one to a Commit
abbrev pub turn_in : ℕ → Result Reply Refusal → Work
turn_in at (Ok (reply.Turn sub activation turn events note)) = Turning at events note
turn_in at _ = Nothing

abbrev pub commit_in : ℕ → Result Reply Refusal → Work
commit_in at (Ok (reply.Committed sub token)) = Telling at sub token
commit_in at _ = Nothing

abbrev pub work_of : ℕ → Op → Result Reply Refusal → Work
work_of at (op.Begin grain most) result = turn_in at result
work_of at (op.Commit grain activation turn note) result = commit_in at result
work_of at _ result = Nothing

-- What a worker has in hand where it makes such a call: for a Commit a turn of this queue whose events were all handled,
-- and the note that the last of them left; for any other call nothing.
abbrev pub IsFreeTo : Op → ℕ → Work → Type 0
IsFreeTo (op.Commit grain activation turn note) at work = work ≡ Turning at [] note
IsFreeTo _ at work = work ≡ Nothing

-- a call of a worker at a queue
pub record WorkerCalls (v w : WorkerView) : Type 0 where
  pub at : ℕ
  pub op : Op
  pub result : Result Reply Refusal
  pub calls : CallsAt v.lines at op result w.lines
  pub may : WorkerMay v.directory calls.was.pass op
  pub free : IsFreeTo op at v.work
  pub over : w.over ≡ end_of result
  pub work : w.work ≡ work_of at op result
  pub directory : w.directory ≡ v.directory
  pub silo : w.silo ≡ v.silo

-- a call of a worker that asks which grain is ready
abbrev pub WorkerLooks : WorkerView → WorkerView → Type 0
WorkerLooks v w = (c : WorkerCalls v w) × (is_ready c.op ≡ true)

-- a call of a worker at the directory
pub record WorkerAsks (v w : WorkerView) : Type 0 where
  pub op : DirectoryOp
  pub result : Result DirectoryReply Refusal
  pub calls : DirectoryCalls v.directory op result w.directory
  pub may : WorkerMayAsk v.silo v.directory op
  pub over : w.over ≡ end_of_asking result
  pub work : (v.work ≡ Nothing) × (w.work ≡ Nothing)
  pub lines : w.lines ≡ v.lines
  pub silo : w.silo ≡ v.silo

-- which note may follow where a gate's handler of this grain is given this subscription, event and note
abbrev pub Follows : Type 0
Follows = GrainId → SubName → Event → ℕ → ℕ → Bool

-- a turn of this grain, for this subscription, runs at this queue: its Begin is the last call of the pass there
abbrev pub RunsAt : List LineView → ℕ → GrainId → SubName → Type 0
RunsAt lines at grain sub =
    (line : LineView) × (slice_get lines at ≡ Some line) × ((activation : ℕ) × (turn : ℕ) × Runs line.pass grain sub activation turn)

-- The handler was given the next event and the note in hand, with the grain and the subscription whose turn runs there,
-- and gave the note for the event behind it. Or the commit was told, which is the last call of the pass there.
abbrev pub HasWorked : Follows → List LineView → Work → Work → Type 0
HasWorked follows lines (Turning at (event ∷ events) note) work =
    (next : ℕ) × (work ≡ Turning at events next) × ((grain : GrainId) × (sub : SubName) × RunsAt lines at grain sub × (follows grain sub event note next ≡ true))
HasWorked follows lines (Telling at sub token) work =
    (work ≡ Nothing) × ((line : LineView) × (slice_get lines at ≡ Some line) × HasCommitted line.pass sub token)
HasWorked follows lines _ work = ⊥

-- a piece of work with no call, at a gate whose notes follow so
pub record WorkerWorks (follows : Follows) (v w : WorkerView) : Type 0 where
  pub worked : HasWorked follows v.lines v.work w.work
  pub lines : w.lines ≡ v.lines
  pub directory : w.directory ≡ v.directory
  pub silo : w.silo ≡ v.silo

-- each queue was looked at since the loop was made or last idle, nothing is in hand, and each line begins anew
pub record WorkerRests (v w : WorkerView) : Type 0 where
  pub looked : All HasLooked v.lines
  pub lines : w.lines ≡ map rested v.lines
  pub work : (v.work ≡ Nothing) × (w.work ≡ Nothing)
  pub directory : w.directory ≡ v.directory
  pub silo : w.silo ≡ v.silo

-- no round is left
abbrev pub WorkerRanOut : WorkerView → WorkerView → Type 0
WorkerRanOut v w = (w ≡ record v { over = Some over.Rounds }) × (v.rounds ≡ 0) × (v.work ≡ Nothing)

-- no round was begun, or one by a look at a queue
abbrev pub WorkerCounts : WorkerView → WorkerView → Type 0
WorkerCounts v w = (w.rounds ≡ v.rounds) ⊎ ((w.rounds + 1 ≡ v.rounds) × WorkerLooks v w)

-- What a step may do, where the loop hasn't ended. Did: one call, which doesn't end it, or a piece of work in hand.
-- Idle: each queue was looked at. Over: a call that ends it, or no round is left.
abbrev pub WorkerGoesOn : Follows → Advance → WorkerView → WorkerView → Type 0
WorkerGoesOn follows advance.Did v w = (w.over ≡ None) × (WorkerCalls v w ⊎ (WorkerAsks v w ⊎ WorkerWorks follows v w))
WorkerGoesOn follows advance.Idle v w = (w.over ≡ None) × WorkerRests v w
WorkerGoesOn follows (advance.Over end) v w = (w.over ≡ Some end) × (WorkerCalls v w ⊎ (WorkerAsks v w ⊎ WorkerRanOut v w))

-- what a step may do; a loop that has ended stays so
abbrev pub WorkerAdvancesFrom : Follows → Option why.Over → Advance → WorkerView → WorkerView → Type 0
WorkerAdvancesFrom follows None did v w = WorkerGoesOn follows did v w × WorkerCounts v w
WorkerAdvancesFrom follows (Some end) did v w = (did ≡ advance.Over end) × (w ≡ v)

-- one step of a worker: a call that it may make, a piece of work, nothing, or its end
abbrev pub WorkerAdvances : Follows → Advance → WorkerView → WorkerView → Type 0
WorkerAdvances follows did v w = WorkerAdvancesFrom follows v.over did v w

-- some steps of a worker, or none
abbrev pub WorkerRuns : Follows → WorkerView → WorkerView → Type 0
WorkerRuns follows v w = Goes (WorkerAdvances follows) v w

-- Why a worker has ended so: it may begin no more rounds; or a limit was met at one of its queues or at the directory. Of
-- a call that failed to allocate nothing is seen.
abbrev pub WorkerEndsBy : Option why.Over → WorkerView → Type 0
WorkerEndsBy (Some over.Rounds) w = w.rounds ≡ 0
WorkerEndsBy (Some over.Limit) w = LineIsAtLimit w.lines ⊎ IsAtLimit end_of_asking w.directory
WorkerEndsBy _ w = Unit {0}

-- A worker that ended for want of rounds has none left, and one that ended at a limit met it at one of its
-- queues or at the directory. Of other ends nothing is said.
abbrev pub WorkerHasCause : WorkerView → Type 0
WorkerHasCause w = WorkerEndsBy w.over w

-- the loop of this worker
abbrev pub worker_of : WorkerState → ℕ → Option why.Over → WorkerView
worker_of w rounds over =
    record { silo = w.silo; lines = w.lines; directory = w.directory; work = work_in w.at w.step w.events; rounds = rounds; over = over }

-- a worker is at the same turnstiles as before
pub record IsBeside (v w : WorkerView) : Type 0 where
  pub lines : places w.lines ≡ places v.lines
  pub directory : w.directory.turnstile ≡ v.directory.turnstile
