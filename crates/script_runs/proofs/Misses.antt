-- A script without a line is told and printed the same whether that line is refused or not.
use Rattle.script_runs.proofs.Prelude.{◌≡◌, ◌∙◌, ap, refl, ℕ, ◌==◌, ◌||◌, false, List, [], ◌∷◌, ◌++◌, fold, Option, Some, None, All-append, Op, Subscribe, Latest, At, op_of, Command}
use Rattle.stream_model.specs.History.{Entry}
use Rattle.stream_script.specs.declared.parser.command.Command.TheVariants as command
use Rattle.script_runs.specs.ScriptLaws.{HasNoLine, MissesChangeNoOther}
use Rattle.script_runs.specs.ScriptReport.{command_printed, lines_after, op_printed, reply_lines}
use Rattle.script_runs.specs.declared.reader.line.Line.{Line}
use Rattle.script_runs.specs.Told.{is_among, op_at, subscribe_reply, told, told_reply, with_told}

module _ (missed : List ℕ) (number : ℕ) where
  reply-same : (before : List Entry) (line : ℕ) (op : Op) → (number == line) ≡ false → told_reply (number ∷ missed) before line op ≡ told_reply missed before line op
  reply-same before line (Subscribe stream grain Latest) other = refl
  reply-same before line (Subscribe stream grain (At token)) other = ap (λ b. subscribe_reply before (b || is_among line missed)) other
  reply-same before line op other = refl

  with-same : (before : List Entry) (line : ℕ) (asked : Option Op) → (number == line) ≡ false → with_told (number ∷ missed) before line asked ≡ with_told missed before line asked
  with-same before line None other = refl
  with-same before line (Some op) other = ap (λ answer. before ++ record { op = op; reply = answer } ∷ []) (reply-same before line op other)

  abbrev then_told : List ℕ → ℕ → List Entry → Line → List Entry
  then_told refused queue before line = with_told refused before line.number (op_at queue line.command)

  fold-same : (queue : ℕ) (before : List Entry) (script : List Line) → HasNoLine number script → fold (then_told (number ∷ missed) queue) before script ≡ fold (then_told missed queue) before script
  fold-same queue before [] none = refl
  fold-same queue before (line ∷ script) none =
      ap (λ entries. fold (then_told (number ∷ missed) queue) entries script) (with-same before line.number (op_at queue line.command) none.0)
      ∙ fold-same queue (then_told missed queue before line) script none.1

  op-same : (before : List Line) (line queue : ℕ) (op : Op) → HasNoLine number before → (number == line) ≡ false → op_printed (number ∷ missed) before line queue op ≡ op_printed missed before line queue op
  op-same before line queue op none other =
      ap (reply_lines line)
      (ap (λ entries. told_reply (number ∷ missed) entries line op) (fold-same queue [] before none) ∙ reply-same (told missed queue before) line op other)

  command-same : (silos : ℕ) (before : List Line) (line : ℕ) (asked : Command) → HasNoLine number before → (number == line) ≡ false
      → command_printed (number ∷ missed) silos before line asked ≡ command_printed missed silos before line asked
  command-same silos before line (command.Step queue op) none other = op-same before line queue op none other
  command-same silos before line (command.Each each) none other = op-same before line 0 (op_of each) none other
  command-same silos before line asked none other = refl

  lines-same : (silos : ℕ) (before lines : List Line) → HasNoLine number before → HasNoLine number lines
      → lines_after (number ∷ missed) silos before lines ≡ lines_after missed silos before lines
  lines-same silos before [] none others = refl
  lines-same silos before (line ∷ lines) none others = λ i.
      command-same silos before line.number line.command none others.0 i
      ++ lines-same silos (before ++ line ∷ []) lines (All-append (λ (line : Line). (number == line.number) ≡ false) before (line ∷ []) none (others.0, tt)) others.1 i

pub misses-change-no-other : MissesChangeNoOther
misses-change-no-other =
    record {
      told = λ missed number queue script none. fold-same missed number queue [] script none;
      printed = λ missed number silos script none. lines-same missed number silos [] script tt none;
    }
