use Rattle.partition_reference.proofs.Prelude.{◌∙◌}
use Rattle.stream_ident.proofs.OrderLemmas.{sub_before}
use Rattle.partition_reference.proofs.positions.is_sub_before.Goals as goal

pub returns : goal.returns
returns c = c.lt.ensures ∙ sub_before c.args.a.now c.args.b.now
