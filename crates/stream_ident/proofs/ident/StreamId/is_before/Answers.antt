use Rattle.stream_ident.proofs.Prelude.{◌∙◌}
use Rattle.stream_ident.proofs.OrderLemmas.{stream_before}
use Rattle.stream_ident.proofs.ident.StreamId.is_before.Goals as goal

pub returns : goal.returns
returns c = c.lt.ensures ∙ stream_before c.args.self.now c.args.other.now
