use Rattle.queue_callers.proofs.Prelude.{◌≡◌, ◌∙◌, List, Option, Some, ap, map, subst, PlainPartition}
use Rattle.stream_script.specs.Report.{report_of}
use Rattle.queue_callers.specs.declared.asking.Quiet.{Quiet}
use Rattle.queue_callers.specs.declared.asking.Quiet.TheVariants.{All}
use Rattle.queue_callers.specs.Finishing.{CameTo}
use Rattle.queue_callers.proofs.Begun.{traces-done}
use Rattle.queue_callers.proofs.finishing.answer.Goals as goal

pub returns-in_ok-text-in-Some-All : goal.returns-in_ok-text-in-Some-All
returns-in_ok-text-in-Some-All g c = λ passes last came traces.
    let asked : c.args.asked ≡ Some All = cc in (
      record { limit = c.if-ends.false; rounds = c.if-ends-2.false },
      asked,
      traces,
      traces-done passes last (map g.H.StoredHistory.entries c.args.traces.histories.items) c.args.traces.partitions.items c.quiet_is_done.ensures (subst (λ (o : Option Quiet). CameTo o passes last) asked came) traces,
      c.in_ok-text-in-Some-All.ensures ∙ ap (λ (ps : List PlainPartition). report_of ps) c.deref.ensures.value,
    )
