use Rattle.stream_script.proofs.Prelude.{◌≡◌, Keeps}
use Rattle.stream_script.proofs.source_sink.CountedSink.flush.Given as goal

abbrev pub invariant-loop : goal.invariant-loop
invariant-loop g l = record {
  failures : l.self.failures ≡ l.fn.self.failures;
  kept : Keeps (g.W.Write.contents l.fn.self.inner) (g.W.Write.contents l.self.inner);
}
