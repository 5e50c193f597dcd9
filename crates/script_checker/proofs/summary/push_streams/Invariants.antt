use Rattle.script_checker.proofs.Prelude.{◌≡◌, ◌++◌, take, string_bytes}
use Rattle.script_checker.specs.Summaries.{stream_lines}
use Rattle.script_checker.proofs.summary.push_streams.Given as goal

-- the streams so far
abbrev pub invariant-loop-number : goal.invariant-loop-number
invariant-loop-number l = string_bytes l.text ≡ string_bytes l.fn.text ++ stream_lines (take l.number l.streams.entries)
