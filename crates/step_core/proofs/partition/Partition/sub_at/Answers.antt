use Rattle.step_core.proofs.Prelude.{◌≡◌, ◌<◌, length, Some, slice_get, sym, subst, PlainPartition}
use Rattle.step_core.specs.Reads.{summaries_in_order}
use Rattle.step_core.proofs.partition.Partition.sub_at.Goals as goal

pub summary_at-requires-clause-within : goal.summary_at-requires-clause-within
summary_at-requires-clause-within c =
    subst (λ (p : PlainPartition). c.args.place < length (summaries_in_order p)) (sym c.self.view_is) c.requires

pub returns : goal.returns
returns c =
    subst (λ (p : PlainPartition). slice_get (summaries_in_order p) c.args.place ≡ Some c.summary_at.result) c.self.view_is c.summary_at.ensures
