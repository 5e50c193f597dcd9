-- The report: what each subscription has handled.
use Rattle.std.specs.Prelude.{ℕ, suc, List, [], ◌∷◌, ◌++◌, length, codes, if◌then◌else◌}
use Rattle.std.specs.Fmt.{decimal}
use Rattle.std.specs.List.{flat_map}
use Rattle.stream_ident.specs.declared.event.Event.{Event}
use Rattle.stream_ident.specs.declared.ident.SubName.{SubName}
use Rattle.stream_ident.specs.Token.{token_text}
use Rattle.stream_model.specs.declared.plain.PlainPartition.{PlainPartition}
use Rattle.step_core.specs.declared.reading.SubSummary.{SubSummary}
use Rattle.step_core.specs.Reads.{handled_of, summaries_in_order}
use Rattle.stream_script.specs.Pieces.{Text, spelling}
use Rattle.stream_script.specs.Spelling.{stream_text, grain_text, sub_text}

-- an event that was handled: two spaces, its token and its text
abbrev pub handled_line : Event → List ℕ
handled_line event = codes "  " ++ token_text event.token ++ 32 ∷ spelling (Text event.payload) ++ 10 ∷ []

-- a subscription, its stream, its grain and its start
abbrev pub binding_text : ℕ → SubSummary → List ℕ
binding_text queue sub =
    sub_text queue sub.name ++ 32 ∷ stream_text sub.stream ++ 32 ∷ grain_text sub.grain ++ 32 ∷ token_text sub.start

-- an open subscription: how many events it has handled, and their lines in order
abbrev pub open_text : ℕ → SubSummary → List Event → List ℕ
open_text queue sub events = binding_text queue sub ++ 32 ∷ decimal (length events) ++ 10 ∷ [] ++ flat_map handled_line events

abbrev pub closed_text : ℕ → SubName → List ℕ
closed_text queue name = sub_text queue name ++ codes " closed\n"

abbrev pub summary_text : ℕ → PlainPartition → SubSummary → List ℕ
summary_text queue p sub = if sub.is_open then open_text queue sub (handled_of p sub.name) else closed_text queue sub.name

-- the lines of a queue: its subscriptions that have a record, in the order of their names
abbrev pub queue_report : ℕ → PlainPartition → List ℕ
queue_report queue p = flat_map (summary_text queue p) (summaries_in_order p)

-- the lines of the queues from this one on
abbrev pub report_from : ℕ → List PlainPartition → List ℕ
report_from queue [] = []
report_from queue (p ∷ partitions) = queue_report queue p ++ report_from (suc queue) partitions

-- the report of all queues
abbrev pub report_of : List PlainPartition → List ℕ
report_of partitions = codes "report\n" ++ report_from 0 partitions
