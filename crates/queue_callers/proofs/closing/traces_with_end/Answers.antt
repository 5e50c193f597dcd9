use Rattle.queue_callers.proofs.Prelude.{◌≡◌, ◌++◌, ◌∷◌, [], List, length, arith, map, rules, subst, sym, common_steps, PlainPartition}
use Rattle.queue_callers.specs.Closing.{AreTraces, IsEnd, IsMissingFirst}
use Rattle.queue_callers.proofs.Tracing.{missing-here, traced-more}
use Rattle.queue_callers.proofs.closing.traces_with_end.Goals as goal

pub returns-in-NotAll : goal.returns-in-NotAll
returns-in-NotAll g c = λ passes pass traces ends.
    let queue : c.len.result ≡ length c.args.traces.histories.items = first_of (omega (arith, c.len.ensures), search rules, grind (arith, common_steps)) in
    subst (λ n. IsMissingFirst n c.in-NotAll.missing (passes ++ pass ∷ [])) (sym queue)
    (missing-here g.H.StoredHistory.entries passes c.args.traces.histories.items c.args.traces.partitions.items c.in-NotAll.missing pass traces (subst (λ e. IsEnd g.H.StoredHistory.entries pass e) c.in-NotAll.is ends))

pub returns-in_ok-push-in-Traced-2 : goal.returns-in_ok-push-in-Traced-2
returns-in_ok-push-in-Traced-2 g c = λ passes pass traces ends.
    let entries = g.H.StoredHistory.entries in
    let more = traced-more entries passes c.args.traces.histories.items c.args.traces.partitions.items pass c.in-Traced.history c.in-Traced.partition traces (subst (λ e. IsEnd entries pass e) c.in-Traced.is ends) in
    subst (λ es. AreTraces (passes ++ pass ∷ []) (map entries es) c.push-in-Traced.new.self.items) (sym c.in_ok-push-in-Traced.ensures.items)
    (subst (λ (ts : List PlainPartition). AreTraces (passes ++ pass ∷ []) (map entries (c.args.traces.histories.items ++ c.in-Traced.history ∷ [])) ts) (sym c.in_ok-push-in-Traced-2.ensures.items) more)
