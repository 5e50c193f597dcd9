use Rattle.script_runs.proofs.Prelude.{◌≡◌, ◌+◌, length}
use Rattle.stream_script.specs.Lines.{lines_of}
use Rattle.script_runs.proofs.Finding.{Found}
use Rattle.script_runs.proofs.reader.reading.read_lines.Given as goal

abbrev pub invariant-loop-line : goal.invariant-loop-line
invariant-loop-line l =
    record {
      number : l.number + length l.lines ≡ length (lines_of l.fn.script);
      found : Found l.fn.queues (lines_of l.fn.script) l.number l.lines l.found.items;
    }

abbrev pub decreases-loop-line : goal.decreases-loop-line
decreases-loop-line l = length l.lines
