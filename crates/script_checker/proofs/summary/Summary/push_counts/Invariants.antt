use Rattle.script_checker.proofs.Prelude.{◌≡◌, ◌++◌, take, string_bytes}
use Rattle.script_checker.specs.Summaries.{count_lines}
use Rattle.script_checker.proofs.summary.Summary.push_counts.Given as goal

-- the verbs so far
abbrev pub invariant-loop-verb : goal.invariant-loop-verb
invariant-loop-verb l = string_bytes l.text ≡ string_bytes l.fn.text ++ count_lines l.self (take l.verb-index l.verbs)
