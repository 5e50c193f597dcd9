use Rattle.step_core.proofs.Prelude.{◌≡◌, ◌∙◌, ◌++◌, ◌∷◌, ◌<◌, ◌≤◌, [], List, length, take, ap, sym, arith, take_all, take_more, get_or_from_slice_get, slice_index, SubName}
use Rattle.step_core.specs.PlainOf.{plain_of}
use Rattle.step_core.specs.Reads.{summaries_in_order, summary_of}
use Rattle.step_core.specs.Records.{record_of}
use Rattle.step_core.specs.declared.reading.SubSummary.{SubSummary}
use Rattle.step_core.proofs.SummaryLemmas.{count-in_order, number-ranked, summary-at, summary_by}
use Rattle.step_core.proofs.reading.summaries.Goals as goal

pub name-name-requires : goal.name-name-requires
name-name-requires c =
    let t = c.args.parts.now.subs in
    let long = sym c.requires.agrees.records.long in
    let within : c.loop-number.number-index < length (summaries_in_order (plain_of c.args.parts.now)) = omega (arith, c.loop-number-test.true, c.by_name-order.ensures.long, count-in_order t.registry.names t.states long) in
    number-ranked t.registry.names t.states long c.by_name-order.result.now c.by_name-order.ensures c.loop-number.number-index within

pub summary_of-requires-clause-within : goal.summary_of-requires-clause-within
summary_of-requires-clause-within c =
    let t = c.args.parts.now.subs in
    let long = sym c.requires.agrees.records.long in
    let within : c.loop-number.number-index < length (summaries_in_order (plain_of c.args.parts.now)) = omega (arith, c.loop-number-test.true, c.by_name-order.ensures.long, count-in_order t.registry.names t.states long) in
    number-ranked t.registry.names t.states long c.by_name-order.result.now c.by_name-order.ensures c.loop-number.number-index within

pub loop-number-preserved : goal.loop-number-preserved
loop-number-preserved c =
    let parts = c.args.parts.now in
    let names = parts.subs.registry.names in
    let states = parts.subs.states in
    let long = sym c.requires.agrees.records.long in
    let order = c.by_name-order.result.now in
    let all = summaries_in_order (plain_of parts) in
    let rank = c.loop-number.number-index in
    let number = slice_index order rank in
    let within : rank < length all = omega (arith, c.loop-number-test.true, c.by_name-order.ensures.long, count-in_order names states long) in
    let summary : SubSummary = summary_by names states long number in
    let made : c.summary_of.result ≡ summary = c.summary_of.ensures ∙ ap (λ (name : SubName). summary_of (name, record_of parts number)) c.name-name.ensures in
    c.in_ok-push.ensures.items
    ∙ ap (λ (front : List SubSummary). front ++ c.summary_of.result ∷ []) c.loop-number.invariant
    ∙ ap (λ (last : SubSummary). take rank all ++ last ∷ []) (made ∙ sym (get_or_from_slice_get all rank summary summary (summary-at names states long order c.by_name-order.ensures rank within)))
    ∙ sym (take_more all rank summary within)

pub returns : goal.returns
returns c =
    let t = c.args.parts.now.subs in
    let all = summaries_in_order (plain_of c.args.parts.now) in
    let past : length all ≤ c.loop-number.number-index = omega (arith, c.loop-number-test.false, c.by_name-order.ensures.long, count-in_order t.registry.names t.states (sym c.requires.agrees.records.long)) in
    c.loop-number.invariant ∙ take_all c.loop-number.number-index all past
