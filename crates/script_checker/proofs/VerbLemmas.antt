-- The words of commands as they are written.
use Rattle.script_checker.proofs.Prelude.{◌≡◌, ℕ, List, ◌∷◌, Some, None, inl, inr, subst, Command, Mode}
use Rattle.stream_model.specs.declared.op.Op.{Op}
use Rattle.stream_model.specs.declared.op.Op.TheVariants as op
use Rattle.stream_script.specs.declared.parser.command.Command.TheVariants.{Step, Each, Up, Down}
use Rattle.stream_script.specs.declared.parser.command.EachOp.TheVariants as each
use Rattle.stream_script.specs.Grammar.{IsSpelled, IsWritten, Reads}
use Rattle.stream_script.specs.Pieces.{Piece, Word, IsLineOf}
use Rattle.script_checker.specs.Checks.{BeginsWith}
use Rattle.script_checker.specs.Counts.{verb_in, verb_of_op, word_of}

-- the word of the verb stands in front
abbrev pub IsInFront : List Piece → List ℕ → Type 0
IsInFront pieces word = (rest : List Piece) × (pieces ≡ Word word ∷ rest)

op_in_front : (queues : ℕ) (pieces : List Piece) (queue : ℕ) (operation : Op) → IsWritten queues pieces queue operation → IsInFront pieces (word_of (verb_of_op operation))
op_in_front queues pieces queue (op.Subscribe stream grain start) w = (_, w.5)
op_in_front queues pieces queue (op.Unsubscribe sub) w = (_, w.2)
op_in_front queues pieces queue (op.Ack generation sub token) w = (_, w.4)
op_in_front queues pieces queue (op.Commit grain activation turn note) w = (_, w.5)
op_in_front queues pieces queue (op.Deactivate grain) w = (_, w.2)
op_in_front queues pieces queue (op.Move silo) w = (_, w.2)
op_in_front queues pieces queue (op.Begin grain most) w = elim (w.3) [ inl one ↦ (_, one.0) | inr more ↦ (_, more) ]
op_in_front queues pieces queue (op.Ready None) w = (_, w.1)
op_in_front queues pieces queue (op.Ready (Some grain)) w = (_, w.2)
op_in_front queues pieces queue (op.Due None) w = (_, w.1)
op_in_front queues pieces queue (op.Due (Some sub)) w = (_, w.2)
op_in_front queues pieces queue (op.AddRule own_kind namespace) w = absurd w
op_in_front queues pieces queue op.Quiet w = absurd w
op_in_front queues pieces queue _ w = (_, w.3)

command_in_front : (queues : ℕ) (pieces : List Piece) (command : Command) → IsSpelled queues pieces command → IsInFront pieces (word_of (verb_in command))
command_in_front queues pieces (Step queue operation) spelled = op_in_front queues pieces queue operation spelled
command_in_front queues pieces (Each (each.Rule own_kind namespace)) spelled = (_, spelled.2)
command_in_front queues pieces (Up silo) spelled = (_, spelled.1)
command_in_front queues pieces (Down silo) spelled = (_, spelled.1)
command_in_front queues pieces _ spelled = (_, spelled)

pub begins_with : (mode : Mode) (queues : ℕ) (line : List ℕ) (command : Command) → Reads mode queues line command → BeginsWith line (word_of (verb_in command))
begins_with mode queues line command reads =
    let front = command_in_front queues reads.1 command reads.3 in
    (front.0, subst (IsLineOf line) front.1 reads.2)
