use Rattle.stream_script.proofs.Prelude.{◌≡◌, Keeps}
use Rattle.stream_script.proofs.source_sink.CountedSource.read.Given as goal

abbrev pub invariant-loop : goal.invariant-loop
invariant-loop g l = record {
  failures : l.self.failures ≡ l.fn.self.failures;
  kept : Keeps (g.R.Read.remaining l.fn.self.inner) (g.R.Read.remaining l.self.inner);
}
