-- One line more at the end of a script.
use Rattle.script_runs.proofs.Prelude.{◌≡◌, ◌∙◌, ap, sym, ℕ, List, [], ◌∷◌, ◌++◌, append-nil, range_with_len}
use Rattle.std.proofs.lemmas.List.{append_assoc}
use Rattle.std.proofs.lemmas.List.Sums.{fold-append}
use Rattle.script_runs.specs.ScriptLaws.{ScriptsGrow}
use Rattle.script_runs.specs.ScriptReport.{command_printed, lines_after, live_after}
use Rattle.script_runs.specs.declared.reader.line.Line.{Line}
use Rattle.script_runs.specs.Told.{op_at, with_told}

printed-grown : (missed : List ℕ) (silos : ℕ) (before lines : List Line) (line : Line)
    → lines_after missed silos before (lines ++ line ∷ []) ≡ lines_after missed silos before lines ++ command_printed missed silos (before ++ lines) line.number line.command
printed-grown missed silos before [] line =
    append-nil (command_printed missed silos before line.number line.command)
    ∙ ap (λ script. command_printed missed silos script line.number line.command) (sym (append-nil before))
printed-grown missed silos before (first ∷ lines) line =
    ap (λ rest. command_printed missed silos before first.number first.command ++ rest) (printed-grown missed silos (before ++ first ∷ []) lines line)
    ∙ (ap (λ script. command_printed missed silos before first.number first.command ++ (lines_after missed silos (before ++ first ∷ []) lines ++ command_printed missed silos script line.number line.command)) (append_assoc before (first ∷ []) lines)
    ∙ sym (append_assoc (command_printed missed silos before first.number first.command) (lines_after missed silos (before ++ first ∷ []) lines) (command_printed missed silos (before ++ first ∷ lines) line.number line.command)))

pub scripts-grow : ScriptsGrow
scripts-grow =
    record {
      told = λ missed queue script line. fold-append (λ before (line : Line). with_told missed before line.number (op_at queue line.command)) [] script (line ∷ []);
      printed = λ missed silos script line. printed-grown missed silos [] script line;
      live = λ silos script line. fold-append (λ live (line : Line). live_after live line.command) (range_with_len 0 silos) script (line ∷ []);
    }
