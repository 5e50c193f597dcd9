-- What a line of a script does on a cluster.
use Rattle.std.specs.Prelude.{◌≡◌, ◌⊎◌, ℕ, ◌<◌, ◌≤◌, false, List, [], ◌∷◌, ◌++◌, Option, Some, None, Result, Ok, Err, IfErr, IfOk, OnErr, slice_get}
use Rattle.std.specs.List.{AllByRecursion, AllZip}
use Rattle.std.specs.declared.alloc.AllocError.{AllocError}
use Rattle.queue_balancer.specs.Balance.{HasNoDoubles}
use Rattle.stream_model.specs.declared.op.Op.{Op}
use Rattle.stream_model.specs.Replies.{Reply}
use Rattle.stream_model.specs.History as told
use Rattle.turnstile.specs.declared.turnstile.Refusal.{Refusal}
use Rattle.turnstile.specs.declared.turnstile.Refusal.TheVariants.{HistoryFull}
use Rattle.silo_loops.specs.Lines.{QueuePass}
use Rattle.doorbells.specs.declared.loop_end.LoopEnd.{LoopEnd}
use Rattle.doorbells.specs.declared.loop_end.Over.{Over}
use Rattle.doorbells.specs.declared.loop_end.Over.TheVariants as over
use Rattle.queue_callers.specs.Calls.{turnstiles}
use Rattle.silo_operators.specs.Operators.{OperatorGoesOn}
use Rattle.silo_threads.specs.Clusters.{ClusterView, HasMetLimit, is_fixed}
use Rattle.silo_threads.specs.declared.cluster.SiloDown.{SiloDown}
use Rattle.silo_threads.specs.declared.cluster.SiloDown.TheVariants as down
use Rattle.silo_threads.specs.declared.cluster.SiloUp.{SiloUp}
use Rattle.silo_threads.specs.declared.cluster.SiloUp.TheVariants as up
use Rattle.queue_callers.specs.declared.asking.Quiet.{Quiet}
use Rattle.queue_callers.specs.Draining.{HasGoneOn, Looks, LooksAWhile, LooksInVain, LooksQuiet}
use Rattle.stream_script.specs.declared.parser.command.Command.{Command}
use Rattle.stream_script.specs.declared.parser.command.Command.TheVariants as command
use Rattle.stream_script.specs.Forms.{op_of}
use Rattle.script_runs.specs.declared.reader.line.Line.{Line}
use Rattle.script_runs.specs.ScriptReport.{command_printed, live_after, live_silos}
use Rattle.script_runs.specs.Told as script
use Rattle.script_runs.specs.declared.producer.answer.Answer.{Answer}
use Rattle.script_runs.specs.declared.producer.answer.Answer.TheVariants as answer
use Rattle.script_runs.specs.Telling.{AloneProduces, AsksLast, BeginsEmpty, HasTold, IsNewNumber, printed_lines, told_at, with_missed}
use Rattle.script_runs.specs.declared.runs.line.Stop.{Stop}
use Rattle.script_runs.specs.declared.runs.line.Stop.TheVariants as stop

-- The silos that live are changed by a line that was answered so: they are then what the script says.
abbrev pub ChangesLive : List ℕ → Command → List ℕ → Type 0
ChangesLive live command new = HasNoDoubles live → (new ≡ live_after live command) × HasNoDoubles new

-- a line that has a silo come or go prints what the script says, where the silos that live are the script's
abbrev pub PrintsChange : List ℕ → Command → Answer → Type 0
PrintsChange live command answer =
    (missed : List ℕ) (silos : ℕ) (lines : List Line) (number : ℕ) → live ≡ live_silos silos lines
    → command_printed missed silos lines number command ≡ printed_lines answer number

-- silos may still come and go, and a drain may look as often as before
abbrev pub StaysOpen : ClusterView → ClusterView → Type 0
StaysOpen v w = is_fixed v ≡ false → (is_fixed w ≡ false) × (w.looks ≡ v.looks)

-- A line by which a silo comes or goes was answered so.
pub record ChangesBy (v : ClusterView) (command : Command) (a : Answer) (w : ClusterView) : Type 0 where
  pub on : OperatorGoesOn v.operator w.operator
  pub live : ChangesLive v.operator.live command w.operator.live
  pub prints : PrintsChange v.operator.live command a
  pub found : (number : ℕ) (missed : List ℕ) → with_missed a number missed ≡ missed
  pub stays : StaysOpen v w

-- A line was answered so. Where the caller had told the lines of a script before it, the silos that lived were those
-- that the script says, and nobody else has produced, it has told this line too, the silos that live are those that the
-- script says, and what the line prints is what the script says. A drain has looked at the queues, and asked nothing else,
-- until all were quiet in one look.
pub record DoesLine (v : ClusterView) (old : List QueuePass) (said : Command) (a : Answer) (w : ClusterView) (new : List QueuePass) : Type 0 where
  pub live : ChangesLive v.operator.live said w.operator.live
  pub told :
      AllByRecursion BeginsEmpty old → AloneProduces new → (missed : List ℕ) (lines : List Line) (number : ℕ) → IsNewNumber number missed lines
      → HasTold missed lines old → HasTold (with_missed a number missed) (lines ++ record { number = number; command = said } ∷ []) new
  pub printed :
      AllByRecursion BeginsEmpty old → AloneProduces new → (missed : List ℕ) (lines : List Line) (number : ℕ) → IsNewNumber number missed lines
      → HasTold missed lines old → (silos : ℕ) → v.operator.live ≡ live_silos silos lines
      → command_printed (with_missed a number missed) silos lines number said ≡ printed_lines a number
  pub quiet : said ≡ command.Drain → LooksQuiet v.looks old new
  pub stays : StaysOpen v w

-- what producers were told at a queue where this was asked once, or nothing was
abbrev pub IsToldOnce : Option Op → List told.Entry → Type 0
IsToldOnce None rest = rest ≡ []
IsToldOnce (Some op) rest = (r : Reply) × (rest ≡ record { op = op; reply = r } ∷ [])

-- What a line has told at a queue that was stopped at the queue `at`: what it asks for there once, if the queue stands
-- before that one; once or never at that one; and nothing at those behind it.
pub record IsToldInPart (at : ℕ) (asked : Command) (queue : ℕ) (rest : List told.Entry) : Type 0 where
  pub before : queue < at → IsToldOnce (script.op_at queue asked) rest
  pub here : queue ≡ at → (rest ≡ []) ⊎ IsToldOnce (script.op_at queue asked) rest
  pub behind : at < queue → rest ≡ []

-- what is done next of the lines that are left: past the last one it is waited as a drain does
abbrev pub next_command : List Line → Command
next_command [] = command.Drain
next_command (line ∷ later) = line.command

-- At each queue producers asked and were told what the script tells of the lines that are done, and past that what the next
-- one told until it was stopped at some queue.
abbrev pub HasToldFront : List ℕ → List Line → List Line → List QueuePass → Type 0
HasToldFront missed done left caller =
    (at : ℕ)
    × ((queue : ℕ) (p : QueuePass) → slice_get caller queue ≡ Some p
    → (rest : List told.Entry) × (told_at p ≡ script.told missed queue done ++ rest) × IsToldInPart at (next_command left) queue rest)

-- A line was stopped. Where the caller had told the lines of a script before it, and nobody else has produced, it has told
-- them and no more than a part of this line.
abbrev pub TellsInPart : List QueuePass → Command → List QueuePass → Type 0
TellsInPart old command new =
    AllByRecursion BeginsEmpty old → AloneProduces new → (missed : List ℕ) (lines : List Line) (number : ℕ) → IsNewNumber number missed lines
    → HasTold missed lines old → HasToldFront missed lines (record { number = number; command = command } ∷ []) new

-- since then a wait has begun that may have so many looks, and this came of its last one
pub record WaitsUntil (looks : ℕ) (result : Result Quiet Refusal) (old new : List QueuePass) : Type 0 where
  pub before : List QueuePass
  pub on : AllZip HasGoneOn old before
  pub ends : Looks looks result before new

-- since then a wait has begun, in which so many looks were made in vain
pub record WaitsInVain (made : ℕ) (old new : List QueuePass) : Type 0 where
  pub before : List QueuePass
  pub on : AllZip HasGoneOn old before
  pub vain : LooksInVain made before new

-- in it there were some looks, and no more than so many
abbrev pub WaitsAWhile : ℕ → List QueuePass → List QueuePass → Type 0
WaitsAWhile looks old new = (made : ℕ) × (1 ≤ made) × (made ≤ looks) × WaitsInVain made old new

-- A line met a limit: its last call did, of a partition or of a history, or a silo couldn't come or go for one. Where it
-- waited, a loop may have met one instead, after some looks in vain: the caller's passes don't show that.
abbrev pub MeetsLimit : Command → ClusterView → List QueuePass → ClusterView → List QueuePass → Type 0
MeetsLimit (command.Step queue op) v old w new = AsksLast old op (Ok answer.Limit) new
MeetsLimit (command.Each each) v old w new = AsksLast old (op_of each) (Ok answer.Limit) new
MeetsLimit command.Drain v old w new = WaitsUntil v.looks (Err HistoryFull) old new ⊎ WaitsAWhile v.looks old new
MeetsLimit (command.Up silo) v old w new = HasMetLimit v.operator w.operator
MeetsLimit (command.Down silo) v old w new = HasMetLimit v.operator w.operator
MeetsLimit command.Report v old w new = ⊥

-- why a line is stopped by a loop that has ended so
abbrev pub stop_by_over : Over → Stop
stop_by_over over.Rounds = stop.RoundLimit
stop_by_over over.Limit = stop.Limit
stop_by_over over.Memory = stop.Memory

-- Why a line is stopped where a queue may never get quiet, by the first end of a loop. Where there is none, a change of
-- silos was broken off, which counts as a limit.
abbrev pub stop_by : Option LoopEnd → Stop
stop_by (Some end) = stop_by_over end.over
stop_by None = stop.Limit

-- how a line ends whose calls were answered so
abbrev pub unless_limit : Result Answer AllocError → Result Answer Stop
unless_limit (Ok answer.Limit) = Err stop.Limit
unless_limit (Ok taken) = Ok taken
unless_limit (Err e) = Err stop.Memory

-- how a line ends by which a silo was to come
abbrev pub came_up : Result SiloUp AllocError → Result Answer Stop
came_up (Ok up.Up) = Ok answer.Taken
came_up (Ok up.Already) = Ok answer.Refused
came_up (Ok up.Limit) = Err stop.Limit
came_up (Ok up.Halted) = Err stop.Limit
came_up (Err e) = Err stop.Memory

-- how a line ends by which a silo was to go
abbrev pub went_down : Result SiloDown AllocError → Result Answer Stop
went_down (Ok down.Down) = Ok answer.Taken
went_down (Ok down.NotLive) = Ok answer.Refused
went_down (Ok down.LastSilo) = Ok answer.Refused
went_down (Ok down.Limit) = Err stop.Limit
went_down (Ok down.Halted) = Err stop.Limit
went_down (Err e) = Err stop.Memory

-- why a wait didn't find all queues quiet
abbrev pub IsUnquiet : Stop → ℕ → List QueuePass → List QueuePass → Type 0
IsUnquiet stop.Limit looks old new = Looks looks (Err HistoryFull) old new ⊎ LooksAWhile looks old new
IsUnquiet stop.NotQuiet looks old new = LooksInVain looks old new
IsUnquiet stop.RoundLimit looks old new = LooksAWhile looks old new
IsUnquiet stop.Memory looks old new = Unit {0}

-- why a line was stopped
abbrev pub StopsBy : Stop → Command → ClusterView → List QueuePass → ClusterView → List QueuePass → Type 0
StopsBy stop.Limit asked v old w new = MeetsLimit asked v old w new
StopsBy stop.NotQuiet asked v old w new = (asked ≡ command.Drain) × WaitsInVain v.looks old new
StopsBy stop.RoundLimit asked v old w new = (asked ≡ command.Drain) × WaitsAWhile v.looks old new
StopsBy stop.Memory asked v old w new = Unit {0}

-- A line has ended so: it is done, or was stopped in part for a reason. The caller and the cluster have gone on.
pub record EndsLine (v : ClusterView) (old : List QueuePass) (said : Command) (result : Result Answer Stop) (w : ClusterView) (new : List QueuePass) : Type 0 where
  pub line : IfOk result (λ told. DoesLine v old said told w new)
  pub part : OnErr result (TellsInPart old said new)
  pub stops : is_fixed v ≡ false → IfErr result (λ why. StopsBy why said v old w new)
  pub on : AllZip HasGoneOn old new
  pub at : turnstiles new ≡ turnstiles old
  pub cluster : OperatorGoesOn v.operator w.operator
