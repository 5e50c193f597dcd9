-- A check of a script, line by line.
use Rattle.script_checker.proofs.Prelude.{◌≡◌, ◌∙◌, ℕ, ◌+◌, ◌-◌, Bool, false, List, [], ◌∷◌, ◌++◌, Result, Err, ap, refl, subst, sym, length, drop, get_or, arith, append_assoc, if◌then◌else◌, drop-drop, get_or-drop, map-append, All, Command, Mode}
use Rattle.std.proofs.lemmas.List.Elements.{All-append, All-push}
use Rattle.stream_script.specs.declared.parser.command.Fault.{Fault}
use Rattle.stream_script.specs.declared.parser.command.FaultKind.{FaultKind}
use Rattle.stream_script.specs.declared.parser.command.Parsed.TheVariants as parsed
use Rattle.stream_script.specs.Reading.{is_skipped, line_command, reading}
use Rattle.stream_script.specs.Reading as parser
use Rattle.script_checker.specs.declared.line.Checked.{Checked}
use Rattle.script_checker.specs.declared.line.Checked.TheVariants as checked
use Rattle.script_checker.specs.declared.line.LineFault.{LineFault}
use Rattle.script_checker.specs.declared.script.Findings.{Findings}
use Rattle.script_checker.specs.Checks.{IsPlaced, IsPlacedFault, parsed_of}
use Rattle.script_checker.specs.PlainSummary.{PlainSummary}
use Rattle.script_checker.specs.Scripts.{IsPlacedIn, fault_in, faults_after, noted_after, noted_in, placed_in, told_of}
use Rattle.script_checker.specs.Summaries.{empty}

-- a fault has the number of the line that was read
fault_of_line : (line : ℕ) (skipped : Bool) (command : Result Command FaultKind) (fault : Fault) → parsed.Fault fault ≡ (if skipped then parsed.Skip else parser.parsed_of line command) → fault.line ≡ line
fault_of_line line false (Err kind) fault e = cc
fault_of_line line _ _ fault e = cc

fault_of_reading : (queues : ℕ) (mode : Mode) (line : ℕ) (bytes : List ℕ) (fault : Fault) → parsed.Fault fault ≡ reading queues mode line bytes → fault.line ≡ line
unfolding reading
fault_of_reading queues mode line bytes fault e = fault_of_line line (is_skipped bytes) (line_command mode queues bytes) fault e

told-placed : (checked : Checked) → told_of (placed_in checked) ≡ fault_in (parsed_of checked)
told-placed (checked.Fault fault) = refl
told-placed _ = refl

-- what was found before the rest of all lines, the last of which has this number
pub record Found (queues : ℕ) (mode : Mode) (all : List (List ℕ)) (last : ℕ) (rest : List (List ℕ)) (found : Findings) : Type 0 where
  pub number : last + length rest ≡ length all
  pub left : drop last all ≡ rest
  pub placed : All (IsPlacedIn all) found.faults.items
  pub faults : told_of found.faults.items ++ faults_after queues mode last rest ≡ faults_after queues mode 0 all
  pub summary : noted_after queues mode last found.summary rest ≡ noted_after queues mode 0 (empty queues) all

module _ (queues : ℕ) (mode : Mode) (all : List (List ℕ)) (last : ℕ) (line : List ℕ) (rest : List (List ℕ)) (found : Findings) (was : Found queues mode all last (line ∷ rest) found) where
  -- a fault of the line stands in it
  placed-here : (checked : Checked) → parsed_of checked ≡ reading queues mode (last + 1) line → IsPlaced line checked → All (IsPlacedIn all) (placed_in checked)
  placed-here (checked.Fault fault) is placed =
      let number : fault.fault.line ≡ last + 1 = fault_of_reading queues mode (last + 1) line fault.fault is in
      let place : last + 0 ≡ fault.fault.line - 1 = omega (arith, number) in
      let here : line ≡ get_or all (fault.fault.line - 1) [] =
      sym (ap (λ (lines : List (List ℕ)). get_or lines 0 []) was.left) ∙ get_or-drop last all 0 [] ∙ ap (λ (n : ℕ). get_or all n []) place in
      All-push (IsPlacedIn all) [] fault (λ k d below. absurd (omega arith))
      record {
        first = omega (arith, number);
        within = omega (arith, number, was.number);
        placed = subst (λ (bytes : List ℕ). IsPlacedFault bytes fault) here placed;
      }
  placed-here _ is placed = λ k d below. absurd (omega arith)

  pub goes_on : (checked : Checked) (new : Findings) → parsed_of checked ≡ reading queues mode (last + 1) line → IsPlaced line checked → new.faults.items ≡ found.faults.items ++ placed_in checked
      → new.summary ≡ noted_in found.summary (parsed_of checked) → Found queues mode all (last + 1) rest new
  goes_on checked new is placed more noted = record {
    number = omega (arith, was.number);
    left = sym (drop-drop 1 last all) ∙ ap (drop 1) was.left;
    placed = subst (λ (f : List LineFault). All (IsPlacedIn all) f) (sym more) (All-append (IsPlacedIn all) found.faults.items (placed_in checked) was.placed (placed-here checked is placed));
    faults = rw (more, map-append, append_assoc, told-placed checked, is) was.faults;
    summary = ap (λ (s : PlainSummary). noted_after queues mode (last + 1) s rest) (noted ∙ ap (noted_in found.summary) is) ∙ was.summary;
  }
