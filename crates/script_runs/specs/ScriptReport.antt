-- What a run of a script prints: the lines that were refused, and the report.
use Rattle.std.specs.Prelude.{ℕ, Bool, true, false, ◌||◌, not, List, [], ◌∷◌, ◌++◌, length, map, filter, fold, Option, None, codes, ◌==◌, if◌then◌else◌}
use Rattle.std.specs.Fmt.{decimal}
use Rattle.std.specs.List.{filter_map, flat_map, range_with_len}
use Rattle.std.specs.Option.{option_map}
use Rattle.stream_ident.specs.declared.ident.GrainId.{GrainId}
use Rattle.stream_ident.specs.declared.ident.SubName.TheVariants as name
use Rattle.stream_model.specs.declared.op.Op.{Op}
use Rattle.stream_model.specs.declared.op.Op.TheVariants.{Subscribe}
use Rattle.stream_model.specs.Replies.{Reply}
use Rattle.stream_model.specs.declared.reply.Reply.TheVariants as reply
use Rattle.stream_model.specs.Draining.{in_order}
use Rattle.stream_model.specs.History.{Binding, Entry, binding_of, is_closed, owed_events, published_events}
use Rattle.stream_model.specs.Pulling.{subs_with}
use Rattle.step_core.specs.declared.reading.SubSummary.{SubSummary}
use Rattle.step_core.specs.Reads.{is_named_before, summary_of}
use Rattle.stream_script.specs.declared.parser.command.Command.{Command}
use Rattle.stream_script.specs.declared.parser.command.Command.TheVariants as command
use Rattle.stream_script.specs.Forms.{op_of}
use Rattle.stream_script.specs.Report.{closed_text, open_text}
use Rattle.script_runs.specs.declared.reader.script_line.ScriptLine.{ScriptLine}
use Rattle.script_runs.specs.declared.reader.script_line.ScriptLine.TheVariants as printed
use Rattle.script_runs.specs.declared.reader.line.Line.{Line}
use Rattle.script_runs.specs.Told.{is_among, rules_of, told, told_reply}

-- an explicit subscription with its stream and its start
abbrev pub explicit_sub : List Entry → ℕ → GrainId → Binding → SubSummary
explicit_sub history number grain binding =
    record {
      name = name.Explicit number;
      stream = binding.stream;
      grain = grain;
      start = binding.start;
      is_open = not (is_closed history (name.Explicit number));
    }

-- the explicit subscription that an entry made, where it did
abbrev pub explicit_of : List Entry → Op → Reply → Option SubSummary
explicit_of history (Subscribe stream grain start) (reply.Subscribed number) =
    option_map (explicit_sub history number grain) (binding_of history (name.Explicit number))
explicit_of history _ _ = None

-- the explicit subscriptions, in the order in which they were made
abbrev pub explicit_subs : List Entry → List SubSummary
explicit_subs history = filter_map (λ (e : Entry). explicit_of history e.op e.reply) history

-- The implicit subscriptions that are owed an event: those that the rules make of what was published.
abbrev pub implicit_subs : List Entry → List SubSummary
implicit_subs history = map summary_of (subs_with (rules_of history) 0 [] (published_events history))

-- all subscriptions that a report names, in the order of their names
abbrev pub told_subs : List Entry → List SubSummary
told_subs history = in_order is_named_before (explicit_subs history ++ implicit_subs history)

-- an open subscription with all that it is owed, or a closed one
abbrev pub told_text : ℕ → List Entry → SubSummary → List ℕ
told_text queue history sub =
    if sub.is_open then open_text queue sub (owed_events history sub.name) else closed_text queue sub.name

-- the lines of a queue in the report of a run whose producers' entries at the queue these are
abbrev pub told_report : ℕ → List Entry → List ℕ
told_report queue history = flat_map (told_text queue history) (told_subs history)

-- the report of a script on so many queues; `missed` are the lines whose start token is refused
abbrev pub script_report : ℕ → List ℕ → List Line → List ℕ
script_report queues missed script =
    codes "report\n" ++ flat_map (λ queue. told_report queue (told missed queue script)) (range_with_len 0 queues)

abbrev pub live_after : List ℕ → Command → List ℕ
live_after live (command.Up silo) = if is_among silo live then live else live ++ silo ∷ []
live_after live (command.Down silo) = if length live == 1 then live else filter (λ other. not (other == silo)) live
live_after live _ = live

-- the silos that live after these lines, of which there were so many before them
abbrev pub live_silos : ℕ → List Line → List ℕ
live_silos silos script = fold (λ live (line : Line). live_after live line.command) (range_with_len 0 silos) script

-- the replies that refuse what a producer asked, a refused start token aside
abbrev pub is_refusal : Reply → Bool
is_refusal reply.BadBatch = true
is_refusal reply.NoSuch = true
is_refusal reply.Closed = true
is_refusal reply.Implicit = true
is_refusal reply.RuleThere = true
is_refusal _ = false

abbrev pub refused_where : ℕ → Bool → List ScriptLine
refused_where line true = printed.Refused line ∷ []
refused_where line false = []

-- what a line prints whose command is answered so: nothing, where it isn't refused
abbrev pub reply_lines : ℕ → Reply → List ScriptLine
reply_lines line (reply.Miss requested low high) = printed.Miss line ∷ []
reply_lines line told = refused_where line (is_refusal told)

-- what an operation prints that a line asks for at a queue, after the lines before it
abbrev pub op_printed : List ℕ → List Line → ℕ → ℕ → Op → List ScriptLine
op_printed missed before line queue op = reply_lines line (told_reply missed (told missed queue before) line op)

-- What a line prints after those before it. A rule is there in every queue or in none, so that the first is
-- asked; a silo that lives can't come, and one that doesn't live, or is the last, can't go.
abbrev pub command_printed : List ℕ → ℕ → List Line → ℕ → Command → List ScriptLine
command_printed missed silos before line (command.Step queue op) = op_printed missed before line queue op
command_printed missed silos before line (command.Each each) = op_printed missed before line 0 (op_of each)
command_printed missed silos before line (command.Up silo) = refused_where line (is_among silo (live_silos silos before))
command_printed missed silos before line (command.Down silo) =
    refused_where line (not (is_among silo (live_silos silos before)) || (length (live_silos silos before) == 1))
command_printed missed silos before line _ = []

-- the lines that these print, one after another, after those before them
abbrev pub lines_after : List ℕ → ℕ → List Line → List Line → List ScriptLine
lines_after missed silos before [] = []
lines_after missed silos before (line ∷ lines) =
    command_printed missed silos before line.number line.command ++ lines_after missed silos (before ++ line ∷ []) lines

-- the lines that stand before the report, in the order of the script
abbrev pub script_lines : List ℕ → ℕ → List Line → List ScriptLine
script_lines missed silos script = lines_after missed silos [] script

abbrev pub line_text : ScriptLine → List ℕ
line_text (printed.Miss line) = codes "miss " ++ decimal line ++ 10 ∷ []
line_text (printed.Refused line) = codes "refused " ++ decimal line ++ 10 ∷ []

-- all that a run prints that ends with a report
abbrev pub script_text : ℕ → List ℕ → ℕ → List Line → List ℕ
script_text queues missed silos script = flat_map line_text (script_lines missed silos script) ++ script_report queues missed script
