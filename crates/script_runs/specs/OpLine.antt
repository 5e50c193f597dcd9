-- An operation on a queue as a line of a script that is simulated.
use Rattle.std.specs.Prelude.{◌≡◌, ℕ, true, List, [], ◌∷◌, map, None, Some, codes}
use Rattle.std.specs.Fmt.{decimal}
use Rattle.std.specs.List.{join_with_byte, list_all}
use Rattle.stream_ident.specs.Alphabet.{is_printable}
use Rattle.stream_ident.specs.Token.{token_text}
use Rattle.stream_model.specs.declared.op.Op.{Op}
use Rattle.stream_model.specs.declared.op.Op.TheVariants as op
use Rattle.stream_model.specs.declared.op.Start.TheVariants as start
use Rattle.stream_script.specs.declared.parser.command.Command.{Command}
use Rattle.stream_script.specs.declared.parser.command.Command.TheVariants.{Step, Each}
use Rattle.stream_script.specs.declared.parser.command.EachOp.TheVariants as each
use Rattle.stream_script.specs.declared.parser.command.Mode.TheVariants as mode
use Rattle.stream_script.specs.declared.parser.command.Parsed.TheVariants as parsed
use Rattle.stream_script.specs.Grammar.{IsSpelled}
use Rattle.stream_script.specs.Pieces.{Piece, Word, Text, spelling}
use Rattle.stream_script.specs.Reading.{reading}
use Rattle.stream_script.specs.Spelling.{stream_text, grain_text, sub_text}

-- The pieces of an operation on this queue. A publish and a subscribe don't name it, since their stream tells
-- it, and neither do a rule and the question whether all is quiet, which a script does on each queue.
unfoldable pub op_pieces : ℕ → Op → List Piece
op_pieces queue (op.Publish stream payloads) = Word (codes "pub") ∷ Word (stream_text stream) ∷ map Text payloads
op_pieces queue (op.Subscribe stream grain start.Latest) =
    Word (codes "sub") ∷ Word (stream_text stream) ∷ Word (grain_text grain) ∷ Word (codes "latest") ∷ []
op_pieces queue (op.Subscribe stream grain (start.At token)) =
    Word (codes "sub") ∷ Word (stream_text stream) ∷ Word (grain_text grain) ∷ Word (codes "from") ∷ Word (token_text token) ∷ []
op_pieces queue (op.Unsubscribe sub) = Word (codes "unsub") ∷ Word (sub_text queue sub) ∷ []
op_pieces queue (op.AddRule own_kind namespace) = Word (codes "rule") ∷ Word own_kind ∷ Word namespace ∷ []
op_pieces queue (op.Pull generation most) =
    Word (codes "pull") ∷ Word (decimal queue) ∷ Word (decimal generation) ∷ Word (decimal most) ∷ []
op_pieces queue (op.Deliver generation sub) = Word (codes "deliver") ∷ Word (decimal generation) ∷ Word (sub_text queue sub) ∷ []
op_pieces queue (op.Retry generation sub) = Word (codes "retry") ∷ Word (decimal generation) ∷ Word (sub_text queue sub) ∷ []
op_pieces queue (op.Ack generation sub token) =
    Word (codes "ack") ∷ Word (decimal generation) ∷ Word (sub_text queue sub) ∷ Word (token_text token) ∷ []
op_pieces queue (op.Purge generation keep) =
    Word (codes "purge") ∷ Word (decimal queue) ∷ Word (decimal generation) ∷ Word (decimal keep) ∷ []
op_pieces queue (op.Begin grain most) = Word (codes "begin") ∷ Word (decimal queue) ∷ Word (grain_text grain) ∷ Word (decimal most) ∷ []
op_pieces queue (op.Commit grain activation turn note) =
    Word (codes "commit") ∷ Word (decimal queue) ∷ Word (grain_text grain) ∷ Word (decimal activation) ∷ Word (decimal turn)
    ∷ Word (decimal note) ∷ []
op_pieces queue (op.Deactivate grain) = Word (codes "deactivate") ∷ Word (decimal queue) ∷ Word (grain_text grain) ∷ []
op_pieces queue (op.Move silo) = Word (codes "move") ∷ Word (decimal queue) ∷ Word (decimal silo) ∷ []
op_pieces queue (op.Ready None) = Word (codes "ready") ∷ Word (decimal queue) ∷ []
op_pieces queue (op.Ready (Some grain)) = Word (codes "ready") ∷ Word (decimal queue) ∷ Word (grain_text grain) ∷ []
op_pieces queue (op.Due None) = Word (codes "due") ∷ Word (decimal queue) ∷ []
op_pieces queue (op.Due (Some sub)) = Word (codes "due") ∷ Word (decimal queue) ∷ Word (sub_text queue sub) ∷ []
op_pieces queue op.Quiet = Word (codes "quiet") ∷ []

-- pieces with one space between each two
abbrev pub joined : List Piece → List ℕ
joined pieces = join_with_byte 32 (map spelling pieces)

-- a text in quotes behind a space
abbrev pub text_behind : List ℕ → List ℕ
text_behind bytes = 32 ∷ spelling (Text bytes)

-- the line that asks for an operation on this queue
abbrev pub op_line : ℕ → Op → List ℕ
op_line queue o = joined (op_pieces queue o)

-- the command that does the operation, on this queue or on each
abbrev pub op_command : ℕ → Op → Command
op_command queue (op.AddRule own_kind namespace) = Each (each.Rule own_kind namespace)
op_command queue op.Quiet = Each each.Quiet
op_command queue o = Step queue o

-- The grammar of scripts has the operation's command, where there are so many queues: some pieces are it. So
-- names are names, numbers have their widths, and the queue is below the number of queues, or that of the stream.
abbrev pub HasCommand : ℕ → ℕ → Op → Type 0
HasCommand queues queue o = (pieces : List Piece) × IsSpelled queues pieces (op_command queue o)

-- The line of an operation is read as its command, in a script that is simulated.
abbrev pub ReadsAgain : Type 0
ReadsAgain =
    (queues queue number : ℕ) (o : Op) → HasCommand queues queue o
    → reading queues mode.Sim number (op_line queue o) ≡ parsed.Command (op_command queue o)

-- The line of an operation has printable bytes alone, and so no line feed and no carriage return.
abbrev pub LinesArePrintable : Type 0
LinesArePrintable = (queues queue : ℕ) (o : Op) → HasCommand queues queue o → list_all is_printable (op_line queue o) ≡ true
