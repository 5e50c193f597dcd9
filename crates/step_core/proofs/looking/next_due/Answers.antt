use Rattle.step_core.proofs.Prelude.{high, ◌∙◌, None, ap, sym, option_map, keys_where, is_due, due_after, leaves_of, name_at}
use Rattle.step_core.specs.PlainOf.{plain_of}
use Rattle.step_core.specs.Serving.{next_due}
use Rattle.step_core.proofs.DueNames.{due-first}
use Rattle.step_core.proofs.LeafOps.{due-is}
use Rattle.step_core.proofs.looking.next_due.Goals as goal

pub returns-in-None-clause-next : goal.returns-in-None-clause-next
returns-in-None-clause-next c =
    let parts = c.args.parts.now in
    let name = name_at parts.subs in
    let leaves = leaves_of parts.subs.registry.names parts.subs.states in
    let is_high = c.high.ensures ∙ ap high c.cache.ensures in
    due-first name (keys_where (is_due (plain_of parts)) (plain_of parts).subs) (due_after c.high.result None leaves) (due-is parts None ∙ ap (λ n. due_after n None leaves) (sym is_high))
    c.due_after.result c.due_after.ensures.none c.due_after.ensures.some
    ∙ ap (λ o. next_due (plain_of parts) (option_map name o)) (sym c.in-None.is)
