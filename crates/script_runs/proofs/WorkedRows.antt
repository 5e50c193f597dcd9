-- Worked rows: what a run of a few scripts prints, by computation, and that a new partition which does what the
-- producers ask and is drained replies and reports the same.
use Rattle.script_runs.proofs.Prelude.{◌≡◌, ℕ, List, [], ◌∷◌, ◌++◌, length, map, zip, refl, range_with_len, codes, GrainId, StreamId, entries_of, empty, after_steps, replies_of, Limits, Op, Publish, Subscribe, Unsubscribe, Latest, At, PlainPartition, queue_report, Command}
use Rattle.std.specs.Fmt.{digits}
use Rattle.stream_ident.specs.declared.ident.SubName.TheVariants.{Explicit, Implicit}
use Rattle.stream_model.specs.declared.reply.Reply.TheVariants.{IsQuiet}
use Rattle.stream_model.specs.Draining.{acknowledge, after_deliver, after_pull, deliver_all, deliver_once_more, drain, drain_all, serve, serve_each, take_turn, take_turns}
use Rattle.stream_model.specs.History.{Entry}
use Rattle.stream_model.specs.Looks.{quiet}
use Rattle.stream_model.specs.Publishing.{add_rule, publish, subscribe, subscribe_at, unsubscribe, unsubscribe_from}
use Rattle.stream_model.specs.Pulling.{ack, ack_of, ack_position, deliver, deliver_position, deliver_to, pull, pull_count, pull_events, pull_want}
use Rattle.stream_model.specs.Step.{step}
use Rattle.stream_model.specs.Turns.{begin, begin_for, begin_front, begin_in, begin_turn, commit, commit_for, commit_running}
use Rattle.stream_script.specs.declared.parser.command.Command.TheVariants.{Step, Each, Drain, Up, Down}
use Rattle.stream_script.specs.declared.parser.command.EachOp.TheVariants.{Rule}
use Rattle.script_runs.specs.declared.reader.script_line.ScriptLine.TheVariants.{Miss, Refused}
use Rattle.script_runs.specs.ScriptReport.{script_lines, script_text, told_report}
use Rattle.script_runs.specs.declared.reader.line.Line.{Line}
use Rattle.script_runs.specs.Told.{producers_entries, told}
use Prim.Native.String.{String}

-- `unfolding computed` lets `refl` compute the steps of a partition and its drains
computed : Unit {0}
unfolding step publish subscribe subscribe_at unsubscribe unsubscribe_from add_rule pull pull_want pull_count pull_events deliver deliver_to deliver_position ack ack_of ack_position begin begin_in begin_front begin_for begin_turn commit commit_running commit_for drain drain_all after_pull serve_each serve deliver_all after_deliver acknowledge deliver_once_more take_turn take_turns quiet
computed = tt

abbrev greatest : Limits
greatest = record { events = 1000000; subs = 10000; rules = 64; rises = 4000000 }

abbrev stream : String → String → StreamId
stream namespace key = record { namespace = codes namespace; key = codes key }

abbrev grain : String → String → GrainId
grain kind key = record { kind = codes kind; key = codes key }

-- a batch of one payload
abbrev batch : String → List (List ℕ)
batch payload = codes payload ∷ []

-- the commands with the numbers of their lines
abbrev script_of : List Command → List Line
script_of commands = map (λ line. record { number = line.0; command = line.1 }) (zip (range_with_len 1 (length commands)) commands)

-- what the producers ask at a queue where no start token is refused
abbrev ops_at : ℕ → List Command → List Op
ops_at queue commands = map (λ (e : Entry). e.op) (told [] queue (script_of commands))

-- a new partition after these operations, and after a drain too
abbrev after : ℕ → List Op → PlainPartition
after blocks ops = after_steps (empty blocks greatest) ops

abbrev drained_after : ℕ → List Op → PlainPartition
drained_after blocks ops = (drain (after blocks ops)).0.now

-- the history of both
abbrev history_of : ℕ → List Op → List Entry
history_of blocks ops = entries_of ops (replies_of (empty blocks greatest) ops) ++ (drain (after blocks ops)).0.entries

-- The producers' entries of a partition that does what they ask and is drained are what the script tells. The
-- partition is quiet then, and reports what the script does.
abbrev AgreesWithPlain : ℕ → List Command → Type 0
AgreesWithPlain queue commands =
    (producers_entries (history_of 4 (ops_at queue commands)) ≡ told [] queue (script_of commands))
    × (quiet (drained_after 4 (ops_at queue commands)) ≡ IsQuiet)
    × (queue_report queue (drained_after 4 (ops_at queue commands)) ≡ told_report queue (told [] queue (script_of commands)))

-- A subscription has all that is published to its stream after it; a number that wasn't given is refused.
abbrev one_subscription : List Command
one_subscription =
    Step 0 (Subscribe (stream "o" "k") (grain "g" "x") Latest)
    ∷ Step 0 (Publish (stream "o" "k") (batch "a"))
    ∷ Step 0 (Publish (stream "o" "k") (batch "b"))
    ∷ Step 0 (Publish (stream "o" "k") (batch "c"))
    ∷ Step 0 (Unsubscribe (Explicit 7))
    ∷ []

pub refused_line_before_the_report :
    script_text 1 [] 2 (script_of one_subscription)
    ≡ codes "refused 5\nreport\n0:1 o/k g/x 0.0 3\n  0.0 \"a\"\n  1.0 \"b\"\n  2.0 \"c\"\n"
unfolding digits
refused_line_before_the_report = refl

pub one_subscription_agrees : AgreesWithPlain 0 one_subscription
unfolding computed
one_subscription_agrees = (refl, refl, refl)

-- A cache of one block has dropped the first events once all are handled. A start there is refused, and the
-- subscription isn't made.
abbrev before_the_start : List Command
before_the_start =
    Step 0 (Subscribe (stream "o" "k") (grain "g" "x") Latest)
    ∷ map (λ n. Step 0 (Publish (stream "o" "k") (batch "e"))) (range_with_len 0 65)

abbrev late_start : Op
late_start = Subscribe (stream "o" "k") (grain "g" "y") (At (record { seq = 0; idx = 0 }))

abbrev start_in_the_past : List Command
start_in_the_past = before_the_start ++ Drain ∷ Step 0 late_start ∷ []

abbrev start_answered : List Entry
start_answered = entries_of (late_start ∷ []) (replies_of (drained_after 1 (ops_at 0 before_the_start)) (late_start ∷ []))

pub start_below_low_is_a_miss :
    (script_lines (68 ∷ []) 1 (script_of start_in_the_past) ≡ Miss 68 ∷ [])
    × (producers_entries (history_of 1 (ops_at 0 before_the_start) ++ start_answered) ≡ told (68 ∷ []) 0 (script_of start_in_the_past))
    × (queue_report 0 (drained_after 1 (ops_at 0 before_the_start)) ≡ told_report 0 (told (68 ∷ []) 0 (script_of start_in_the_past)))
unfolding computed
start_below_low_is_a_miss = (refl, refl, refl)

-- A rule makes a subscription of each stream on which something is published after it. Such a subscription
-- can't be unsubscribed, and the rule can't be added again.
abbrev one_rule : List Command
one_rule =
    Step 0 (Publish (stream "o" "a") (batch "1"))
    ∷ Each (Rule (codes "log") (codes "o"))
    ∷ Step 0 (Publish (stream "o" "b") (batch "2"))
    ∷ Step 0 (Publish (stream "o" "a") (batch "3"))
    ∷ Step 0 (Unsubscribe (Implicit (codes "log") (stream "o" "a")))
    ∷ Each (Rule (codes "log") (codes "o"))
    ∷ []

pub implicit_subscriptions_are_reported :
    script_text 1 [] 1 (script_of one_rule)
    ≡ codes "refused 5\nrefused 6\nreport\n0:log@o/a o/a log/a 1.0 1\n  2.0 \"3\"\n0:log@o/b o/b log/b 1.0 1\n  1.0 \"2\"\n"
unfolding digits
implicit_subscriptions_are_reported = refl

pub one_rule_agrees : AgreesWithPlain 0 one_rule
unfolding computed
one_rule_agrees = (refl, refl, refl)

-- Of two silos one is there already and one isn't; one comes, the others go, and the last can't. A closed
-- subscription is reported by its name.
abbrev silos_that_come_and_go : List Command
silos_that_come_and_go =
    Up 1
    ∷ Step 1 (Subscribe (stream "o" "k") (grain "g" "x") Latest)
    ∷ Up 2
    ∷ Step 1 (Publish (stream "o" "k") (batch "a"))
    ∷ Down 5
    ∷ Step 1 (Subscribe (stream "o" "k") (grain "g" "y") (At (record { seq = 0; idx = 0 })))
    ∷ Down 0
    ∷ Down 1
    ∷ Step 1 (Unsubscribe (Explicit 1))
    ∷ Step 1 (Unsubscribe (Explicit 1))
    ∷ Down 2
    ∷ Step 1 (Publish (stream "o" "k") [])
    ∷ []

pub last_silo_stays :
    (script_lines [] 2 (script_of silos_that_come_and_go) ≡ Refused 1 ∷ Refused 5 ∷ Refused 10 ∷ Refused 11 ∷ Refused 12 ∷ [])
    × (script_text 2 [] 2 (script_of silos_that_come_and_go)
    ≡ codes "refused 1\nrefused 5\nrefused 10\nrefused 11\nrefused 12\nreport\n1:1 closed\n1:2 o/k g/y 0.0 1\n  0.0 \"a\"\n")
unfolding digits
last_silo_stays = (refl, refl)

pub silos_agree : AgreesWithPlain 1 silos_that_come_and_go
unfolding computed
silos_agree = (refl, refl, refl)
