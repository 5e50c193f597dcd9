use Rattle.step_core.proofs.Prelude.{is_unacknowledged, SubState, high, ◌∙◌, Some, None, ap, sym, subst, ◌<◌, length, pred, AllByRecursion, option_copied, if◌then◌else◌, past, due_after, leaves_of}
use Rattle.partition_queue.specs.Queue.{token_at}
use Rattle.step_core.proofs.LookOps.{due-none, due-some, handled-within}
use Rattle.step_core.proofs.Shared.{distinct-of-unique}
use Rattle.step_core.proofs.looking.due.Goals as goal

pub to_acknowledge-requires : goal.to_acknowledge-requires
to_acknowledge-requires c =
    let parts = c.args.parts.now in
    subst (λ (s : SubState). AllByRecursion (λ position. position < length parts.queue.events) s.handled) (sym c.state.ensures)
    (handled-within parts c.in-Some.number c.requires.within (sym c.requires.records.long) c.in-Some.ensures.within)

pub returns-in-Some-clause-reply : goal.returns-in-Some-clause-reply
returns-in-Some-clause-reply c =
    let parts = c.args.parts.now in
    let leaves = leaves_of parts.subs.registry.names parts.subs.states in
    let is_high = c.high-high.ensures ∙ ap high c.cache.ensures in
    let asked = ap (due_after (high parts.agent.cache)) (sym c.as_ref.ensures.value) in
    let is_due = ap (λ due. due leaves) asked ∙ ap (λ n. due_after n (option_copied c.as_ref.result) leaves) (sym is_high) ∙ c.in-Some.ensures.some in
    let ack = c.to_acknowledge.ensures ∙ ap (λ (s : SubState). if is_unacknowledged s then Some (token_at parts.queue (pred (past s.handled))) else None) c.state.ensures in
    due-some parts c.args.after c.in-Some.number c.name.result c.to_acknowledge.result (distinct-of-unique parts.subs.registry.names c.requires.unique) (sym c.requires.records.long) c.in-Some.ensures.within is_due c.name.ensures ack

pub returns-in-None-clause-reply : goal.returns-in-None-clause-reply
returns-in-None-clause-reply c =
    let parts = c.args.parts.now in
    let leaves = leaves_of parts.subs.registry.names parts.subs.states in
    let is_high = c.high-high.ensures ∙ ap high c.cache.ensures in
    let asked = ap (due_after (high parts.agent.cache)) (sym c.as_ref.ensures.value) in
    let is_none = ap (λ due. due leaves) asked ∙ ap (λ n. due_after n (option_copied c.as_ref.result) leaves) (sym is_high) ∙ c.in-None.ensures.none in
    sym (due-none c.args.parts.now c.args.after is_none)
