-- What stands in a script without a fault.
use Rattle.std.specs.Prelude.{ℕ, ◌+◌, ◌-◌, ◌^◌, Bool, false, not, is_some, List, [], ◌∷◌, ◌++◌, Option, Some, None, codes, min, replicate, slice_index, slice_set, ◌==◌, if◌then◌else◌}
use Rattle.std.specs.Fmt.{decimal}
use Rattle.std.specs.List.{flat_map}
use Rattle.queue_mapper.specs.Place.{place_of}
use Rattle.stream_ident.specs.declared.ident.StreamId.{StreamId}
use Rattle.stream_ident.specs.declared.ident.SubName.{SubName}
use Rattle.stream_ident.specs.declared.ident.SubName.TheVariants as name
use Rattle.stream_ident.specs.Name.{same_stream, stream_text}
use Rattle.stream_ident.specs.Words.{value_at, with_new}
use Rattle.stream_model.specs.declared.op.Op.{Op}
use Rattle.stream_model.specs.declared.op.Op.TheVariants as op
use Rattle.stream_script.specs.declared.parser.command.Command.{Command}
use Rattle.stream_script.specs.declared.parser.command.Command.TheVariants as command
use Rattle.script_checker.specs.declared.verb.TheConstants.{ALL, VERBS}
use Rattle.script_checker.specs.declared.verb.Verb.{Verb}
use Rattle.script_checker.specs.Counts.{verb_in, word_of, number_of}
use Rattle.script_checker.specs.PlainSummary.{PlainSummary}

-- the stream of an implicit subscription
abbrev pub stream_of_sub : SubName → Option StreamId
stream_of_sub (name.Explicit number) = None
stream_of_sub (name.Implicit kind stream) = Some stream

abbrev pub stream_of_after : Option SubName → Option StreamId
stream_of_after None = None
stream_of_after (Some sub) = stream_of_sub sub

-- the stream that an operation names
abbrev pub stream_of_op : Op → Option StreamId
stream_of_op (op.Publish stream payloads) = Some stream
stream_of_op (op.Subscribe stream grain start) = Some stream
stream_of_op (op.Unsubscribe sub) = stream_of_sub sub
stream_of_op (op.Deliver generation sub) = stream_of_sub sub
stream_of_op (op.Retry generation sub) = stream_of_sub sub
stream_of_op (op.Ack generation sub token) = stream_of_sub sub
stream_of_op (op.Due after) = stream_of_after after
stream_of_op _ = None

-- the stream that a command names
abbrev pub stream_in : Command → Option StreamId
stream_in (command.Step queue operation) = stream_of_op operation
stream_in _ = None

-- the queue that the mapper gives a stream
unfoldable pub own_queue : StreamId → ℕ → ℕ
own_queue stream queues = (place_of stream queues).queue

-- a summary of no line
abbrev pub empty : ℕ → PlainSummary
empty queues = record { queues = queues; counts = replicate VERBS 0; streams = [] }

-- how many lines have this verb
abbrev pub count_of : PlainSummary → Verb → ℕ
count_of summary verb = slice_index summary.counts (number_of verb)

-- the queue of a stream that a line names
abbrev pub queue_in : PlainSummary → StreamId → Option ℕ
queue_in summary stream = value_at same_stream stream summary.streams

-- one more, as far as a number of 64 bits counts
abbrev pub one_more : ℕ → ℕ
one_more n = min (n + 1) (2 ^ 64 - 1)

-- with a line of this verb
abbrev pub counted : PlainSummary → Verb → PlainSummary
counted summary verb = record summary { counts = slice_set summary.counts (number_of verb) (one_more (count_of summary verb)) }

-- with a stream, at the end unless it is there
abbrev pub named : PlainSummary → Option StreamId → PlainSummary
named summary None = summary
named summary (Some stream) =
    record summary { streams = with_new same_stream summary.streams (stream, own_queue stream summary.queues) }

-- a line names a stream that no line before has named
abbrev pub names_new : PlainSummary → Option StreamId → Bool
names_new summary None = false
names_new summary (Some stream) = not (is_some (queue_in summary stream))

-- a summary with a line more
abbrev pub noted : PlainSummary → Command → PlainSummary
noted summary command = counted (named summary (stream_in command)) (verb_in command)

-- the line of a verb, where there is one
abbrev pub count_line : Verb → ℕ → List ℕ
count_line verb count = if count == 0 then [] else word_of verb ++ (32 ∷ (decimal count ++ codes "\n"))

-- the line of a stream
abbrev pub stream_line : StreamId × ℕ → List ℕ
stream_line entry = stream_text entry.0 ++ (codes " queue " ++ (decimal entry.1 ++ codes "\n"))

-- the lines of verbs
abbrev pub count_lines : PlainSummary → List Verb → List ℕ
count_lines summary verbs = flat_map (λ verb. count_line verb (count_of summary verb)) verbs

-- the lines of streams
abbrev pub stream_lines : List (StreamId × ℕ) → List ℕ
stream_lines streams = flat_map stream_line streams

-- the text of a summary: the lines of all verbs, and then those of the streams
abbrev pub summary_text : PlainSummary → List ℕ
summary_text summary = count_lines summary ALL ++ stream_lines summary.streams
