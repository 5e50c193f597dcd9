-- What the one producer of a script asks, line by line, and what it is told.
use Rattle.std.specs.Prelude.{◌≡◌, ◌≢◌, ℕ, zero, suc, true, false, List, [], ◌∷◌, ◌++◌, Contains, Some, Result, Ok, Err, slice_get, if◌then◌else◌}
use Rattle.std.specs.List.{AllByRecursion, AllZip}
use Rattle.std.specs.declared.alloc.AllocError.{AllocError}
use Rattle.stream_model.specs.declared.op.Op.{Op}
use Rattle.stream_model.specs.declared.plain.PlainPartition.{PlainPartition}
use Rattle.stream_model.specs.Replies.{Reply}
use Rattle.stream_model.specs.declared.reply.Reply.TheVariants as reply
use Rattle.stream_model.specs.History as told
use Rattle.stream_model.specs.Producers.{is_producer}
use Rattle.turnstile.specs.declared.history.Entry.{Entry}
use Rattle.turnstile.specs.declared.turnstile.Refusal.{Refusal}
use Rattle.turnstile.specs.declared.turnstile.Refusal.TheVariants.{HistoryFull, Memory}
use Rattle.turnstile.specs.Calls.{numbers_of}
use Rattle.turnstile.specs.Passes.{Origin}
use Rattle.shared_partition.specs.Partitions.{BeganEmpty, told_of}
use Rattle.silo_loops.specs.Lines.{QueuePass}
use Rattle.queue_callers.specs.Calls.{CallerCalls, QueueCalls}
use Rattle.queue_callers.specs.Draining.{HasGoneOn}
use Rattle.stream_script.specs.declared.parser.command.Command.{Command}
use Rattle.script_runs.specs.declared.reader.line.Line.{Line}
use Rattle.script_runs.specs.declared.reader.script_line.ScriptLine.{ScriptLine}
use Rattle.script_runs.specs.declared.reader.script_line.ScriptLine.TheVariants as printed
use Rattle.script_runs.specs.ScriptLaws.{HasNoLine}
use Rattle.script_runs.specs.ScriptReport.{command_printed, is_refusal}
use Rattle.script_runs.specs.Told as script
use Rattle.script_runs.specs.declared.producer.answer.Answer.{Answer}
use Rattle.script_runs.specs.declared.producer.answer.Answer.TheVariants as answer

-- each producer's entry that the pass has seen is its own, or of a pass that was joined to it
abbrev pub ProducesAlone : QueuePass → Type 0
ProducesAlone p = AllByRecursion (λ (e : Entry Op Reply). is_producer e.op ≡ true → Contains (numbers_of p) e.number) p.seen

-- nobody but the caller has published, subscribed, unsubscribed or added a rule, as far as it has seen
abbrev pub AloneProduces : List QueuePass → Type 0
AloneProduces caller = AllByRecursion ProducesAlone caller

-- what producers asked and were told at the queue of the pass, as far as a script says what that is
abbrev pub told_at : QueuePass → List told.Entry
told_at p = script.producers_entries (told_of p.seen)

-- At each queue producers asked and were told what the script tells. `missed` are the lines whose start token was
-- refused.
abbrev pub HasTold : List ℕ → List Line → List QueuePass → Type 0
HasTold missed lines caller = (queue : ℕ) (p : QueuePass) → slice_get caller queue ≡ Some p → told_at p ≡ script.told missed queue lines

-- the turnstile of the pass began with an empty partition
abbrev pub BeginsEmpty : QueuePass → Type 0
BeginsEmpty p = (t : Origin PlainPartition) × (p.turnstile ≡ Some t) × BeganEmpty t.start

-- how a reply answers what a line asked for
abbrev pub answer_of : Reply → Answer
answer_of reply.QueueFull = answer.Limit
answer_of reply.TooMany = answer.Limit
answer_of reply.Spent = answer.Limit
answer_of (reply.Miss requested low high) = answer.Missed
answer_of other = if is_refusal other then answer.Refused else answer.Taken

-- the lines whose start token was refused, after a line that was answered so
abbrev pub with_missed : Answer → ℕ → List ℕ → List ℕ
with_missed answer.Missed number missed = number ∷ missed
with_missed _ number missed = missed

-- what a line prints that was answered so
abbrev pub printed_lines : Answer → ℕ → List ScriptLine
printed_lines answer.Missed number = printed.Miss number ∷ []
printed_lines answer.Refused number = printed.Refused number ∷ []
printed_lines _ number = []

-- no line of the script has this number
abbrev pub IsNewNumber : ℕ → List ℕ → List Line → Type 0
IsNewNumber number missed lines = HasNoLine number lines × (script.is_among number missed ≡ false)

-- A line with this command was answered so. Where the lines of a script before it were told, and nobody else
-- has produced, this one is told too, and prints what the script says.
pub record Tells (old : List QueuePass) (command : Command) (answer : Answer) (new : List QueuePass) : Type 0 where
  pub told :
      AllByRecursion BeginsEmpty old → AloneProduces new → (missed : List ℕ) (lines : List Line) (number : ℕ) → IsNewNumber number missed lines
      → HasTold missed lines old → HasTold (with_missed answer number missed) (lines ++ record { number = number; command = command } ∷ []) new
  pub printed :
      AllByRecursion BeginsEmpty old → AloneProduces new → (missed : List ℕ) (lines : List Line) (number : ℕ) → IsNewNumber number missed lines
      → HasTold missed lines old → (silos : ℕ) → command_printed (with_missed answer number missed) silos lines number command ≡ printed_lines answer number

-- the same as `Tells`, unless a limit was met
abbrev pub TellsUnlessLimit : List QueuePass → Command → Answer → List QueuePass → Type 0
TellsUnlessLimit old command a new = a ≢ answer.Limit → Tells old command a new

-- what a line gets that makes one call, of which this came
abbrev pub IsAnswered : Result Reply Refusal → Result Answer AllocError → Type 0
IsAnswered (Ok r) result = result ≡ Ok (answer_of r)
IsAnswered (Err HistoryFull) result = result ≡ Ok answer.Limit
IsAnswered (Err Memory) result = (e : AllocError) × (result ≡ Err e)

-- one call at one queue, which was answered so
pub record AsksOnce (old : List QueuePass) (queue : ℕ) (op : Op) (result : Result Answer AllocError) (new : List QueuePass) : Type 0 where
  pub outcome : Result Reply Refusal
  pub calls : CallerCalls old queue op outcome new
  pub answered : IsAnswered outcome result

-- this came of the last of such calls
pub record AsksLast (old : List QueuePass) (op : Op) (result : Result Answer AllocError) (new : List QueuePass) : Type 0 where
  pub before : List QueuePass
  pub on : AllZip HasGoneOn old before
  pub queue : ℕ
  pub asks : AsksOnce before queue op result new

-- calls end where one, the last, meets a limit or fails to allocate
abbrev pub EndsAsking : List QueuePass → Op → Result Answer AllocError → List QueuePass → Type 0
EndsAsking old op (Ok answer.Limit) new = AsksLast old op (Ok answer.Limit) new
EndsAsking old op (Ok _) new = Unit {0}
EndsAsking old op (Err e) new = AsksLast old op (Err e) new

-- one call at the queue of a pass, whose reply is no limit
pub record IsAsked (op : Op) (p q : QueuePass) : Type 0 where
  pub reply : Reply
  pub calls : QueueCalls p op (Ok reply) q
  pub free : answer_of reply ≢ answer.Limit

-- there was one such call at each queue before this one, and none at those from it on
abbrev pub AreAskedBefore : ℕ → Op → List QueuePass → List QueuePass → Type 0
AreAskedBefore zero op old new = new ≡ old
AreAskedBefore (suc queue) op [] new = ⊥
AreAskedBefore (suc queue) op (p ∷ ps) [] = ⊥
AreAskedBefore (suc queue) op (p ∷ ps) (q ∷ qs) = IsAsked op p q × AreAskedBefore queue op ps qs

-- there was one such call at each queue before some one, then one at that, of which this came, and none at those behind it
pub record AsksUpTo (old : List QueuePass) (op : Op) (result : Result Answer AllocError) (new : List QueuePass) : Type 0 where
  pub queue : ℕ
  pub before : List QueuePass
  pub front : AreAskedBefore queue op old before
  pub last : AsksOnce before queue op result new

-- each queue is asked once, in order, up to the first call that meets a limit or fails to allocate
abbrev pub AsksEachOnce : List QueuePass → Op → Result Answer AllocError → List QueuePass → Type 0
AsksEachOnce old op (Ok answer.Limit) new = AsksUpTo old op (Ok answer.Limit) new
AsksEachOnce old op (Ok _) new = AllZip (IsAsked op) old new
AsksEachOnce old op (Err e) new = AsksUpTo old op (Err e) new
