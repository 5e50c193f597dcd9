use Rattle.stream_ident.proofs.Prelude.{◌∙◌}
use Rattle.stream_ident.proofs.OrderLemmas.{sub_before}
use Rattle.stream_ident.proofs.ident.SubName.is_before.Goals as goal

pub returns : goal.returns
returns c = c.lt.ensures ∙ sub_before c.args.self.now c.args.other.now
