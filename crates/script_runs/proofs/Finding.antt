-- What is read of a script, line by line.
use Rattle.script_runs.proofs.Prelude.{◌≡◌, ℕ, ◌≤◌, ◌<◌, ◌+◌, List, [], ◌∷◌, ◌++◌, Result, Ok, Err, refl, sym, ap, subst, ◌∙◌, append_assoc, arith, AllByRecursion, All-push, All-weaken, Reads, IsWithin, Command}
use Rattle.stream_model.specs.declared.op.Op.TheVariants as op
use Rattle.stream_script.specs.declared.parser.command.Command.TheVariants as command
use Rattle.stream_script.specs.declared.parser.command.EachOp.TheVariants as each
use Rattle.stream_script.specs.declared.parser.command.Fault.{Fault}
use Rattle.stream_script.specs.declared.parser.command.Mode.TheVariants as mode
use Rattle.stream_script.specs.declared.parser.command.Parsed.TheVariants as parsed
use Rattle.stream_script.specs.Reading.{reading}
use Rattle.script_runs.specs.declared.reader.line.Line.{Line}
use Rattle.script_runs.specs.Scripts.{IsRunCommand, RisesFrom, lines_after, with_parsed}

-- what is read of more lines is put behind what was found
abbrev behind : List Line → Result (List Line) Fault → Result (List Line) Fault
behind found (Ok lines) = Ok (found ++ lines)
behind found (Err fault) = Err fault

-- so much is found by now, of lines up to this number, and the rest is still to be read
pub record Found (queues : ℕ) (all : List (List ℕ)) (last : ℕ) (rest : List (List ℕ)) (found : List Line) : Type 0 where
  pub whole : lines_after queues 0 all ≡ behind found (lines_after queues last rest)
  pub commands : AllByRecursion (λ (line : Line). IsRunCommand queues line.command) found
  pub rises : RisesFrom 0 found
  pub below : AllByRecursion (λ (line : Line). line.number ≤ last) found

-- a command that stands in a script which is run
pub may-run : (queues : ℕ) (line : List ℕ) (c : Command) → Reads mode.Run queues line c → IsWithin queues (parsed.Command c) → IsRunCommand queues c
may-run queues line (command.Step queue (op.Publish stream payloads)) reads within = (within, refl)
may-run queues line (command.Step queue (op.Subscribe stream grain start)) reads within = (within, refl)
may-run queues line (command.Step queue (op.Unsubscribe sub)) reads within = (within, refl)
may-run queues line (command.Step queue _) reads within = absurd reads.0
may-run queues line (command.Each (each.Rule kind namespace)) reads within = refl
may-run queues line (command.Each each.Quiet) reads within = absurd reads.0
may-run queues line command.Drain reads within = tt
may-run queues line command.Report reads within = absurd reads.0
may-run queues line (command.Up silo) reads within = reads.3.0
may-run queues line (command.Down silo) reads within = reads.3.0

behind-more : (found : List Line) (line : Line) (rest : Result (List Line) Fault) → behind found (with_parsed line.number (parsed.Command line.command) rest) ≡ behind (found ++ line ∷ []) rest
behind-more found line (Ok lines) = ap Ok (sym (append_assoc found (line ∷ []) lines))
behind-more found line (Err fault) = refl

all-later : (last : ℕ) (found : List Line) → AllByRecursion (λ (line : Line). line.number ≤ last) found → AllByRecursion (λ (line : Line). line.number ≤ last + 1) found
all-later last found all = All-weaken (λ (line : Line). line.number ≤ last) (λ (line : Line). line.number ≤ last + 1) (λ line less. omega (arith, less)) found all

rises-push : (from last : ℕ) (found : List Line) (line : Line) → from ≤ last → AllByRecursion (λ (x : Line). x.number ≤ last) found → last < line.number → RisesFrom from found → RisesFrom from (found ++ line ∷ [])
rises-push from last [] line within below more rises = (omega (arith, within, more), tt)
rises-push from last (x ∷ found) line within below more rises = (rises.0, rises-push x.number last found line below.0 below.1 more rises.1)

pub finds : (queues : ℕ) (all : List (List ℕ)) (last : ℕ) (line : List ℕ) (rest : List (List ℕ)) (found more : List Line) (c : Command) → Found queues all last (line ∷ rest) found → parsed.Command c ≡ reading queues mode.Run (last + 1) line
    → IsRunCommand queues c → more ≡ found ++ record { number = last + 1; command = c } ∷ [] → Found queues all (last + 1) rest more
finds queues all last line rest found more c was read runs grown =
    subst (λ (ls : List Line). Found queues all (last + 1) rest ls) (sym grown)
    (let new : Line = record { number = last + 1; command = c } in
    record {
      whole = was.whole ∙ ap (λ p. behind found (with_parsed (last + 1) p (lines_after queues (last + 1) rest))) (sym read) ∙ behind-more found new (lines_after queues (last + 1) rest);
      commands = All-push (λ (x : Line). IsRunCommand queues x.command) found new was.commands runs;
      rises = rises-push 0 last found new (omega arith) was.below (omega arith) was.rises;
      below = All-push (λ (x : Line). x.number ≤ last + 1) found new (all-later last found was.below) (omega arith);
    })

pub skips : (queues : ℕ) (all : List (List ℕ)) (last : ℕ) (line : List ℕ) (rest : List (List ℕ)) (found : List Line) → Found queues all last (line ∷ rest) found → parsed.Skip ≡ reading queues mode.Run (last + 1) line → Found queues all (last + 1) rest found
skips queues all last line rest found was read =
    record {
      whole = was.whole ∙ ap (λ p. behind found (with_parsed (last + 1) p (lines_after queues (last + 1) rest))) (sym read);
      commands = was.commands;
      rises = was.rises;
      below = all-later last found was.below;
    }
