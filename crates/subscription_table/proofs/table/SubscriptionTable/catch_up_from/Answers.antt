use Rattle.subscription_table.proofs.Prelude.{SubState, PlainResumes, ◌≡◌, ◌∙◌, ◌-◌, ℕ, List, ap, sym, subst, arith, with_items_is, slice_index}
use Rattle.std.specs.Vec.{with_items}
use Rattle.subscription_table.specs.Idle.{CatchUp, CatchUpAt}
use Rattle.subscription_table.specs.Table.{PlainTable}
use Rattle.subscription_table.proofs.IdleLemmas.{catch-run}
use Rattle.subscription_table.proofs.table.SubscriptionTable.catch_up_from.Goals as goal

pub returns : goal.returns
returns c =
    let cache = c.args.cache.now in
    let registry = c.self.inside.registry in
    let order = c.self.inside.resumes.order in
    let first = c.rank-first.result in
    let end = c.catch_up_each-end.result in
    let t : PlainTable = record { registry = registry; states = c.self.inside.states.items } in
    let new : PlainTable = record { registry = registry; states = c.catch_up_each-end.new.states } in
    let same : c.numbers.result.now ≡ order = c.numbers.ensures.numbers ∙ ap (λ (r : PlainResumes). r.order) c.fill.ensures in
    let each : CatchUpAt cache order t new first (end - first) =
    subst (λ (states : List SubState). CatchUpAt cache order (record { registry = registry; states = states }) new first (end - first)) c.deref_mut.ensures.value c.catch_up_each-end.ensures.each in
    let states : (with_items c.self.inside.states c.catch_up_each-end.new.states).items ≡ c.catch_up_each-end.new.states =
    with_items_is c.self.inside.states c.catch_up_each-end.new.states (omega (arith, c.catch_up_each-end.auto.states, c.deref_mut.ensures.len)) in
    subst (λ (items : List SubState). (more : ℕ) × CatchUp cache c.args.self.now (record { registry = registry; states = items }) c.args.number more (slice_index c.numbers.result.now (end - 1))) (sym states)
    (subst (λ (all : List ℕ). (more : ℕ) × CatchUp cache c.args.self.now new c.args.number more (slice_index all (end - 1))) (sym same)
    (subst (λ (old : PlainTable). (more : ℕ) × CatchUp cache old new c.args.number more (slice_index order (end - 1))) c.self.view_is
    (catch-run cache order t new first end c.args.number (omega (arith, c.catch_up_each-end.ensures.from, c.if-end-first.false)) c.rank-first.ensures.at each)))
