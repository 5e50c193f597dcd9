-- What the summary of commands says.
use Rattle.std.specs.Prelude.{◌≡◌, ◌↔◌, ℕ, ◌-◌, ◌^◌, ◌==◌, Bool, false, List, [], ◌∷◌, Option, Some, None, count_by, min, slice_get, if◌then◌else◌}
use Rattle.std.specs.List.{list_any}
use Rattle.stream_ident.specs.declared.ident.StreamId.{StreamId}
use Rattle.stream_ident.specs.Name.{same_stream}
use Rattle.stream_script.specs.declared.parser.command.Command.{Command}
use Rattle.script_checker.specs.declared.verb.TheConstants.{ALL}
use Rattle.script_checker.specs.declared.verb.Verb.{Verb}
use Rattle.script_checker.specs.Counts.{verb_in, number_of}
use Rattle.script_checker.specs.PlainSummary.{PlainSummary}
use Rattle.script_checker.specs.Summaries.{count_of, empty, noted, own_queue, queue_in, stream_in}

-- a summary after the lines of these commands, in order
abbrev pub noted_all : PlainSummary → List Command → PlainSummary
noted_all summary [] = summary
noted_all summary (command ∷ commands) = noted_all (noted summary command) commands

-- the summary of these commands
abbrev pub summary_of : ℕ → List Command → PlainSummary
summary_of queues commands = noted_all (empty queues) commands

-- how many of the commands have this verb
abbrev pub lines_of_verb : Verb → List Command → ℕ
lines_of_verb verb commands = count_by (λ command. number_of (verb_in command) == number_of verb) commands

-- this stream is the one that is named
abbrev pub is_named : StreamId → Option StreamId → Bool
is_named stream None = false
is_named stream (Some other) = same_stream stream other

-- one of the commands names this stream
abbrev pub is_named_in : StreamId → List Command → Bool
is_named_in stream commands = list_any (λ command. is_named stream (stream_in command)) commands

-- The count of a verb is how many of the commands have it, as far as a number of 64 bits counts.
abbrev pub LinesAreCounted : Type 0
LinesAreCounted =
    (queues : ℕ) (commands : List Command) (verb : Verb) → count_of (summary_of queues commands) verb ≡ min (lines_of_verb verb commands) (2 ^ 64 - 1)

-- A stream that a command names has the mapper's queue, and another one has none.
abbrev pub QueuesAreTold : Type 0
QueuesAreTold =
    (queues : ℕ) (commands : List Command) (stream : StreamId) → queue_in (summary_of queues commands) stream
    ≡ (if is_named_in stream commands then Some (own_queue stream queues) else None)

-- Each verb stands in the list of all at its number, and at no other place.
abbrev pub VerbsStandOnce : Type 0
VerbsStandOnce = (verb : Verb) (place : ℕ) → (slice_get ALL place ≡ Some verb) ↔ (place ≡ number_of verb)
