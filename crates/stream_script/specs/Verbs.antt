-- The words that begin a command, and where a command may stand.
use Rattle.std.specs.Prelude.{ℕ, Bool, true, false, List, Option, Some, None, Result, Err, codes, if◌then◌else◌}
use Rattle.stream_ident.specs.Name.{same_name}
use Rattle.stream_ident.specs.Words.{or_else}
use Rattle.stream_script.specs.declared.parser.command.FaultKind.{FaultKind}
use Rattle.stream_script.specs.declared.parser.command.FaultKind.TheVariants as kind
use Rattle.stream_script.specs.declared.parser.command.Mode.{Mode}
use Rattle.stream_script.specs.declared.parser.command.Mode.TheVariants as mode
use Rattle.stream_script.specs.declared.parser.command.Verb.{Verb}
use Rattle.stream_script.specs.declared.parser.command.Verb.TheVariants.{Pub, Sub, Unsub, Rule, Pull, Deliver, Retry, Ack, Purge, Move, Begin, Commit, Deactivate, Ready, Due, Quiet, Drain, Report, Up, Down}
use Rattle.stream_script.specs.Fields.{or_fault}
use Rattle.stream_script.specs.Pieces.{Piece, Word, Text}

-- what producers and subscribers do
abbrev pub producer_verb : List ℕ → Option Verb
producer_verb word =
    if same_name word (codes "pub") then Some Pub
    else if same_name word (codes "sub") then Some Sub
    else if same_name word (codes "unsub") then Some Unsub
    else if same_name word (codes "rule") then Some Rule
    else None

-- what pulling agents do
abbrev pub agent_verb : List ℕ → Option Verb
agent_verb word =
    if same_name word (codes "pull") then Some Pull
    else if same_name word (codes "deliver") then Some Deliver
    else if same_name word (codes "retry") then Some Retry
    else if same_name word (codes "ack") then Some Ack
    else if same_name word (codes "purge") then Some Purge
    else None

-- what workers do
abbrev pub worker_verb : List ℕ → Option Verb
worker_verb word =
    if same_name word (codes "begin") then Some Begin
    else if same_name word (codes "commit") then Some Commit
    else if same_name word (codes "deactivate") then Some Deactivate
    else None

-- what is asked
abbrev pub look_verb : List ℕ → Option Verb
look_verb word =
    if same_name word (codes "ready") then Some Ready
    else if same_name word (codes "due") then Some Due
    else if same_name word (codes "quiet") then Some Quiet
    else if same_name word (codes "report") then Some Report
    else None

-- what an operator does
abbrev pub operator_verb : List ℕ → Option Verb
operator_verb word =
    if same_name word (codes "drain") then Some Drain
    else if same_name word (codes "move") then Some Move
    else if same_name word (codes "up") then Some Up
    else if same_name word (codes "down") then Some Down
    else None

-- the verb that a word is
abbrev pub verb_of : List ℕ → Option Verb
verb_of word = or_else (agent_verb word) (or_else (worker_verb word) (or_else (look_verb word) (or_else (producer_verb word) (operator_verb word))))

-- behind this word texts stand
abbrev pub takes_texts : Verb → Bool
takes_texts Pub = true
takes_texts _ = false

-- what may stand in a script that is run: what producers do, a drain, and what changes the silos
abbrev pub may_run : Verb → Bool
may_run Pub = true
may_run Sub = true
may_run Unsub = true
may_run Rule = true
may_run Drain = true
may_run Up = true
may_run Down = true
may_run _ = false

-- what may stand in a script that is simulated: all but what changes the silos, since there are none
abbrev pub may_sim : Verb → Bool
may_sim Up = false
may_sim Down = false
may_sim _ = true

abbrev pub may_stand : Mode → Verb → Bool
may_stand mode.Sim verb = may_sim verb
may_stand mode.Run verb = may_run verb

-- the fault of a command that may not stand in such a script
abbrev pub not_here : Mode → FaultKind
not_here mode.Sim = kind.NotInSim
not_here mode.Run = kind.NotInRun

-- the verb of a line's first piece
abbrev pub verb_in_front : Piece → Result Verb FaultKind
verb_in_front (Word word) = or_fault kind.BadCommand (verb_of word)
verb_in_front (Text bytes) = Err kind.BadCommand
