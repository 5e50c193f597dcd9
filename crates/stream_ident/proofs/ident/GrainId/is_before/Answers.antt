use Rattle.stream_ident.proofs.Prelude.{◌∙◌}
use Rattle.stream_ident.proofs.OrderLemmas.{grain_before}
use Rattle.stream_ident.proofs.ident.GrainId.is_before.Goals as goal

pub returns : goal.returns
returns c = c.lt.ensures ∙ grain_before c.args.self.now c.args.other.now
