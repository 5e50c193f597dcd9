-- The word of each verb.
use Rattle.stream_script.proofs.Prelude.{◌≡◌, codes, sym, ap, subst, inl, inr, cases_Bool, ℕ, true, List, Option, Some, None, Ok, cond, refl, same_name, same_text}
use Rattle.stream_ident.specs.Words.{or_else}
use Rattle.stream_model.specs.declared.op.Op.TheVariants as op
use Rattle.stream_script.specs.declared.parser.command.Command.{Command}
use Rattle.stream_script.specs.declared.parser.command.Command.TheVariants as made
use Rattle.stream_script.specs.declared.parser.command.EachOp.TheVariants as each
use Rattle.stream_script.specs.declared.parser.command.FaultKind.TheVariants as kind
use Rattle.stream_script.specs.declared.parser.command.Mode.{Mode}
use Rattle.stream_script.specs.declared.parser.command.Mode.TheVariants as mode
use Rattle.stream_script.specs.declared.parser.command.Verb.{Verb}
use Rattle.stream_script.specs.declared.parser.command.Verb.TheVariants.{Pub, Sub, Unsub, Rule, Pull, Deliver, Retry, Ack, Purge, Move, Begin, Commit, Deactivate, Ready, Due, Quiet, Drain, Report, Up, Down}
use Rattle.stream_script.specs.Grammar.{MayStand}
use Rattle.stream_script.specs.Pieces.{Piece, Word, Text}
use Rattle.stream_script.specs.Verbs.{may_stand, producer_verb, agent_verb, worker_verb, look_verb, operator_verb, verb_of, verb_in_front}
use Rattle.stream_script.proofs.FieldLemmas.{or_fault_ok}

-- the word of each verb
abbrev pub verb_word : Verb → List ℕ
verb_word Pub = codes "pub"
verb_word Sub = codes "sub"
verb_word Unsub = codes "unsub"
verb_word Rule = codes "rule"
verb_word Pull = codes "pull"
verb_word Deliver = codes "deliver"
verb_word Retry = codes "retry"
verb_word Ack = codes "ack"
verb_word Purge = codes "purge"
verb_word Move = codes "move"
verb_word Begin = codes "begin"
verb_word Commit = codes "commit"
verb_word Deactivate = codes "deactivate"
verb_word Ready = codes "ready"
verb_word Due = codes "due"
verb_word Quiet = codes "quiet"
verb_word Drain = codes "drain"
verb_word Report = codes "report"
verb_word Up = codes "up"
verb_word Down = codes "down"

abbrev IsVerb : List ℕ → Option Verb → Type 0
IsVerb word None = Unit {0}
IsVerb word (Some verb) = word ≡ verb_word verb

verb_first : (word : List ℕ) (verb : Verb) (rest : Option Verb) → IsVerb word rest → IsVerb word (cond (same_name word (verb_word verb)) (Some verb) rest)
verb_first word verb rest later =
    elim (cases_Bool (same_name word (verb_word verb))) [
      | inl h ↦ rw h (same_text word (verb_word verb) (sym h))
      | inr h ↦ rw h later
    ]

either_verb : (word : List ℕ) (first other : Option Verb) → IsVerb word first → IsVerb word other → IsVerb word (or_else first other)
either_verb word None other is is_other = is_other
either_verb word (Some verb) other is is_other = is

verb_of-is : (word : List ℕ) → IsVerb word (verb_of word)
verb_of-is word =
    either_verb word (agent_verb word) _ (verb_first word Pull _ (verb_first word Deliver _ (verb_first word Retry _ (verb_first word Ack _ (verb_first word Purge None tt)))))
    (either_verb word (worker_verb word) _ (verb_first word Begin _ (verb_first word Commit _ (verb_first word Deactivate None tt)))
    (either_verb word (look_verb word) _ (verb_first word Ready _ (verb_first word Due _ (verb_first word Quiet _ (verb_first word Report None tt))))
    (either_verb word (producer_verb word) (operator_verb word) (verb_first word Pub _ (verb_first word Sub _ (verb_first word Unsub _ (verb_first word Rule None tt))))
    (verb_first word Drain _ (verb_first word Move _ (verb_first word Up _ (verb_first word Down None tt)))))))

pub verb_in_front-found : (piece : Piece) (verb : Verb) → verb_in_front piece ≡ Ok verb → piece ≡ Word (verb_word verb)
verb_in_front-found (Word word) verb e = ap Word (subst (IsVerb word) (or_fault_ok kind.BadCommand (verb_of word) verb e) (verb_of-is word))
verb_in_front-found (Text bytes) verb e = absurd cc

pub verb_of-word : (verb : Verb) → verb_of (verb_word verb) ≡ Some verb
verb_of-word Pub = refl
verb_of-word _ = refl

-- the verb of each command; the operations without one are done on each queue
abbrev pub verb_for : Command → Verb
verb_for (made.Step queue (op.Publish stream payloads)) = Pub
verb_for (made.Step queue (op.Subscribe stream grain start)) = Sub
verb_for (made.Step queue (op.Unsubscribe sub)) = Unsub
verb_for (made.Step queue (op.Pull generation most)) = Pull
verb_for (made.Step queue (op.Deliver generation sub)) = Deliver
verb_for (made.Step queue (op.Retry generation sub)) = Retry
verb_for (made.Step queue (op.Ack generation sub token)) = Ack
verb_for (made.Step queue (op.Purge generation keep)) = Purge
verb_for (made.Step queue (op.Move silo)) = Move
verb_for (made.Step queue (op.Begin grain most)) = Begin
verb_for (made.Step queue (op.Commit grain activation turn note)) = Commit
verb_for (made.Step queue (op.Deactivate grain)) = Deactivate
verb_for (made.Step queue (op.Ready after)) = Ready
verb_for (made.Step queue (op.Due after)) = Due
verb_for (made.Step queue _) = Quiet
verb_for (made.Each (each.Rule own_kind namespace)) = Rule
verb_for (made.Each each.Quiet) = Quiet
verb_for made.Drain = Drain
verb_for made.Report = Report
verb_for (made.Up silo) = Up
verb_for (made.Down silo) = Down

-- a command may stand just where its verb may
pub may_stand-verb : (m : Mode) (command : Command) → MayStand m command → may_stand m (verb_for command) ≡ true
may_stand-verb mode.Sim (made.Step queue op.Quiet) may = refl
may_stand-verb mode.Sim (made.Each each.Quiet) may = refl
may_stand-verb mode.Run (made.Step queue op.Quiet) may = absurd may
may_stand-verb mode.Run (made.Each each.Quiet) may = absurd may
may_stand-verb _ _ may = search

pub verb-may_stand : (m : Mode) (command : Command) → may_stand m (verb_for command) ≡ true → MayStand m command
verb-may_stand mode.Sim (made.Step queue op.Quiet) may = tt
verb-may_stand mode.Sim (made.Each each.Quiet) may = tt
verb-may_stand mode.Run (made.Step queue op.Quiet) may = absurd cc
verb-may_stand mode.Run (made.Each each.Quiet) may = absurd cc
verb-may_stand _ _ may = first_of (search, cc)
