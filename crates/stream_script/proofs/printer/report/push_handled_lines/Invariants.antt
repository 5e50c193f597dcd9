use Rattle.stream_script.proofs.Prelude.{◌≡◌, ◌++◌, take, flat_map, events_at}
use Rattle.stream_script.specs.Report.{handled_line}
use Rattle.stream_script.proofs.printer.report.push_handled_lines.Given as goal

-- the events so far
abbrev pub invariant-loop-position : goal.invariant-loop-position
invariant-loop-position l = l.out.items ≡ l.fn.out.items ++ flat_map handled_line (events_at l.partition.log (take l.position-index l.positions))
