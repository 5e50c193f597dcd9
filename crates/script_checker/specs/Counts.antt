-- The verbs of commands, and how often each stands in a script.
use Rattle.std.specs.Prelude.{ℕ, List, codes}
use Rattle.stream_model.specs.declared.op.Op.{Op}
use Rattle.stream_model.specs.declared.op.Op.TheVariants as op
use Rattle.stream_script.specs.declared.parser.command.Command.{Command}
use Rattle.stream_script.specs.declared.parser.command.Command.TheVariants as command
use Rattle.stream_script.specs.Forms.{op_of}
use Rattle.script_checker.specs.declared.verb.Verb.{Verb}
use Rattle.script_checker.specs.declared.verb.Verb.TheVariants.{Pub, Sub, Unsub, Rule, Pull, Deliver, Retry, Ack, Purge, Move, Begin, Commit, Deactivate, Ready, Due, Quiet, Drain, Report, Up, Down}

-- the verb of an operation
abbrev pub verb_of_op : Op → Verb
verb_of_op (op.Publish stream payloads) = Pub
verb_of_op (op.Subscribe stream grain start) = Sub
verb_of_op (op.Unsubscribe sub) = Unsub
verb_of_op (op.AddRule kind namespace) = Rule
verb_of_op (op.Pull generation most) = Pull
verb_of_op (op.Deliver generation sub) = Deliver
verb_of_op (op.Retry generation sub) = Retry
verb_of_op (op.Ack generation sub token) = Ack
verb_of_op (op.Purge generation keep) = Purge
verb_of_op (op.Begin grain most) = Begin
verb_of_op (op.Commit grain activation turn note) = Commit
verb_of_op (op.Deactivate grain) = Deactivate
verb_of_op (op.Move silo) = Move
verb_of_op (op.Ready after) = Ready
verb_of_op (op.Due after) = Due
verb_of_op op.Quiet = Quiet

-- the verb of a command
abbrev pub verb_in : Command → Verb
verb_in (command.Step queue operation) = verb_of_op operation
verb_in (command.Each each) = verb_of_op (op_of each)
verb_in command.Drain = Drain
verb_in command.Report = Report
verb_in (command.Up silo) = Up
verb_in (command.Down silo) = Down

-- the word that begins the command
abbrev pub word_of : Verb → List ℕ
word_of Pub = codes "pub"
word_of Sub = codes "sub"
word_of Unsub = codes "unsub"
word_of Rule = codes "rule"
word_of Pull = codes "pull"
word_of Deliver = codes "deliver"
word_of Retry = codes "retry"
word_of Ack = codes "ack"
word_of Purge = codes "purge"
word_of Move = codes "move"
word_of Begin = codes "begin"
word_of Commit = codes "commit"
word_of Deactivate = codes "deactivate"
word_of Ready = codes "ready"
word_of Due = codes "due"
word_of Quiet = codes "quiet"
word_of Drain = codes "drain"
word_of Up = codes "up"
word_of Down = codes "down"
word_of Report = codes "report"

-- its place among all
abbrev pub number_of : Verb → ℕ
number_of Pub = 0
number_of Sub = 1
number_of Unsub = 2
number_of Rule = 3
number_of Pull = 4
number_of Deliver = 5
number_of Retry = 6
number_of Ack = 7
number_of Purge = 8
number_of Move = 9
number_of Begin = 10
number_of Commit = 11
number_of Deactivate = 12
number_of Ready = 13
number_of Due = 14
number_of Quiet = 15
number_of Drain = 16
number_of Up = 17
number_of Down = 18
number_of Report = 19
