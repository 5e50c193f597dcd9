use Rattle.script_runs.proofs.Prelude.{◌≡◌, take, flat_map}
use Rattle.script_runs.specs.ScriptReport.{line_text}
use Rattle.script_runs.proofs.runs.text.run_text.Given as goal

-- the lines so far
abbrev pub invariant-loop-line : goal.invariant-loop-line
invariant-loop-line g l = l.text.items ≡ flat_map line_text (take l.line-index l.line-items)
