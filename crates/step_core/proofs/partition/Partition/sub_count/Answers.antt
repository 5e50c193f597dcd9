use Rattle.step_core.proofs.Prelude.{◌∙◌, length, ap, sym, PlainPartition}
use Rattle.step_core.specs.Reads.{summaries_in_order}
use Rattle.step_core.proofs.SummaryLemmas.{count-in_order}
use Rattle.step_core.proofs.partition.Partition.sub_count.Goals as goal

pub returns : goal.returns
returns c =
    let t = c.self.inside.parts.subs in
    c.len.ensures.len ∙ sym (count-in_order t.registry.names t.states (sym c.self.invariant.records.long))
    ∙ ap (λ (p : PlainPartition). length (summaries_in_order p)) c.self.view_is
