use Rattle.stream_script.proofs.Prelude.{◌≡◌, ◌+◌, length}
use Rattle.stream_script.specs.Lines.{lines_of}
use Rattle.stream_script.specs.Simulation.{run_lines, run_script}
use Rattle.stream_script.proofs.Running.{Reaches}
use Rattle.stream_script.proofs.simulate.run_lines.Given as goal

-- what was written, and then what the lines that are left write, is what all lines write
abbrev pub invariant-loop-line : goal.invariant-loop-line
invariant-loop-line g l =
    record {
      config : l.simulator.config ≡ l.fn.config;
      failures : g.W.Sink.failures l.sink ≡ g.W.Sink.failures l.fn.sink;
      number : l.number + length l.lines ≡ 1 + length (lines_of l.fn.script);
      written : Reaches (g.W.Sink.contents l.fn.sink) (g.W.Sink.contents l.sink) (run_script l.fn.config l.fn.script) (run_lines l.fn.config l.number l.simulator.partitions.items l.lines);
    }

abbrev pub decreases-loop-line : goal.decreases-loop-line
decreases-loop-line g l = length l.lines
