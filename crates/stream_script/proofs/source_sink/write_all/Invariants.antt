use Rattle.stream_script.proofs.Prelude.{◌≡◌, length}
use Rattle.stream_script.specs.Transfers.{AppendsUpTo}
use Rattle.stream_script.proofs.source_sink.write_all.Given as goal

abbrev pub invariant-loop-rest : goal.invariant-loop-rest
invariant-loop-rest g l = record {
  failures : g.W.Sink.failures l.sink ≡ g.W.Sink.failures l.fn.sink;
  written : AppendsUpTo (g.W.Sink.contents l.fn.sink) (g.W.Sink.contents l.sink) l.bytes l.rest;
}

abbrev pub decreases-loop-rest : goal.decreases-loop-rest
decreases-loop-rest g l = length l.rest
