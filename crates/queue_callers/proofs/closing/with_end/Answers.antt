use Rattle.queue_callers.proofs.Prelude.{subst, sym}
use Rattle.queue_callers.proofs.Tracing.{Extends, extends-missing}
use Rattle.queue_callers.proofs.closing.with_end.Goals as goal
use Rattle.queue_callers.proofs.closing.with_end.Goals.{in-InUse-end, in_default}

pub returns-after-end-2 : goal.returns-after-end-2
returns-after-end-2 g c =
    elim c.match-end-2.branch [
      | in-InUse-end w ↦ subst (λ r. Extends g.H.StoredHistory.entries c.args.closing c.args.end r) (sym w.result-is) (λ passes pass before ends. tt)
      | in_default w ↦ extends-missing g.H.StoredHistory.entries c.args.closing c.args.end c.match-end-2.result c.in-NotAll.queue c.in-NotAll.missing c.in-NotAll.is w.in_default.not-InUse w.result-is
    ]
