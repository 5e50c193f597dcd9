use Rattle.subscription_table.proofs.Prelude.{caught_up, SubState, high, ◌≡◌, ◌∙◌, ◌<◌, ℕ, List, false, get_or, length, refl, ap, ap₂, sym, subst, arith, slice_index}
use Rattle.subscription_table.specs.Idle.{IsIdle}
use Rattle.subscription_table.specs.Table.{PlainTable, no_entry}
use Rattle.subscription_table.proofs.IdleLemmas.{catch-step}
use Rattle.subscription_table.proofs.table.idle.catch_up_each.Goals as goal

pub loop-rank-preserved : goal.loop-rank-preserved
loop-rank-preserved c =
    let cache = c.args.cache.now in
    let r = c.args.resumes.now in
    let start : PlainTable = record { registry = c.args.registry.now; states = c.args.states.now } in
    let here : PlainTable = record { registry = c.args.registry.now; states = c.loop-rank.states } in
    let number = slice_index c.numbers-order.result.now c.loop-rank.rank in
    let is_number : number ≡ slice_index r.order c.loop-rank.rank = ap (λ (order : List ℕ). slice_index order c.loop-rank.rank) c.numbers-order.ensures.numbers in
    let below : c.loop-rank.rank < length r.order = omega (arith, c.loop-rank-test.true, c.len-rank-end.ensures.len, c.requires.table.ranked.long) in
    let own = c.index-states-number.result in
    let again = c.index-states-number-in-loop-rank.result in
    let its = (get_or c.args.registry.now.names number no_entry).1.stream in
    let idle : IsIdle cache own its = subst (λ (s : SubState). IsIdle cache s its) (sym c.index-states-number.is) (c.if-not-is_idle.ensures refl) in
    catch-step cache c.requires.high start here c.args.tags.now r c.args.first c.loop-rank.rank number (omega arith) below is_number c.loop-rank.invariant own c.index-states-number.is idle
    again c.catch_up.new.self c.index-states-number-in-loop-rank.is
    (c.catch_up.ensures ∙ ap₂ (λ (n : ℕ) (s : SubState). caught_up n false s) c.high-high.ensures (sym c.index-states-number-in-loop-rank.is))
