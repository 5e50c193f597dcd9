use Rattle.step_core.proofs.Prelude.{◌∙◌, Some, sym, ap, arith, slice_index, SubName}
use Rattle.step_core.specs.Reads.{summary_of}
use Rattle.step_core.specs.Records.{record_of}
use Rattle.step_core.proofs.SummaryLemmas.{count-in_order, number-ranked, summary-at}
use Rattle.step_core.proofs.ViewLemmas.{records-length}
use Rattle.step_core.proofs.reading.summary_at.Goals as goal

pub bounds-order-rank : goal.bounds-order-rank
bounds-order-rank c =
    let t = c.args.parts.now.subs in
    omega (arith, c.requires.within, c.by_name-order.ensures.long, count-in_order t.registry.names t.states (sym c.requires.agrees.records.long))

pub offset_bounds-order-rank : goal.offset_bounds-order-rank
offset_bounds-order-rank c =
    let t = c.args.parts.now.subs in
    let long = sym c.requires.agrees.records.long in
    omega (arith, c.requires.within, count-in_order t.registry.names t.states long, records-length t.registry.names t.states long, c.requires.agrees.within.subs, c.requires.agrees.within.limits.subs)

pub name-requires : goal.name-requires
name-requires c =
    let t = c.args.parts.now.subs in
    number-ranked t.registry.names t.states (sym c.requires.agrees.records.long) c.by_name-order.result.now c.by_name-order.ensures c.args.rank c.requires.within

pub summary_of-requires-clause-within : goal.summary_of-requires-clause-within
summary_of-requires-clause-within c =
    let t = c.args.parts.now.subs in
    number-ranked t.registry.names t.states (sym c.requires.agrees.records.long) c.by_name-order.result.now c.by_name-order.ensures c.args.rank c.requires.within

pub returns : goal.returns
returns c =
    let parts = c.args.parts.now in
    let order = c.by_name-order.result.now in
    let own = record_of parts (slice_index order c.args.rank) in
    summary-at parts.subs.registry.names parts.subs.states (sym c.requires.agrees.records.long) order c.by_name-order.ensures c.args.rank c.requires.within
    ∙ ap Some (sym (c.summary_of.ensures ∙ ap (λ (name : SubName). summary_of (name, own)) c.name.ensures))
