use Rattle.step_core.proofs.Prelude.{high, ◌≡◌, ◌∙◌, Some, ap, sym, option_map, sub_lt, is_above, keys_where, is_due, due_after, leaves_of, name_at}
use Rattle.step_core.specs.PlainOf.{plain_of}
use Rattle.step_core.proofs.DueNames.{due-by, due-none-past}
use Rattle.step_core.proofs.LeafOps.{due-is}
use Rattle.step_core.proofs.looking.due_past.Goals as goal

pub returns-in_err-number-clause-next : goal.returns-in_err-number-clause-next
returns-in_err-number-clause-next c =
    let parts = c.args.parts.now in
    let after = Some (name_at parts.subs c.args.last) in
    let leaves = leaves_of parts.subs.registry.names parts.subs.states in
    let is_high = c.high.ensures ∙ ap high c.cache.ensures in
    let none = due-is parts after ∙ ap (λ n. due_after n after leaves) (sym is_high) ∙ c.in_err-number.ensures.none in
    ap (option_map (name_at parts.subs)) c.from_residual.ensures ∙ sym (due-none-past after (keys_where (is_due (plain_of parts)) (plain_of parts).subs) none)

pub returns-clause-next : goal.returns-clause-next
returns-clause-next c =
    let parts = c.args.parts.now in
    let name = name_at parts.subs in
    let after = Some (name c.args.last) in
    let number = c.in_ok-number.number in
    let leaves = leaves_of parts.subs.registry.names parts.subs.states in
    let is_high = c.high.ensures ∙ ap high c.cache.ensures in
    let found = due-is parts after ∙ ap (λ n. due_after n after leaves) (sym is_high) ∙ c.in_ok-number.ensures.some in
    let past : c.is_before-is_past.result ≡ is_above sub_lt after (name number) = c.is_before-is_past.ensures in
    ap (option_map name) c.then_some.ensures ∙ due-by name after (keys_where (is_due (plain_of parts)) (plain_of parts).subs) number found c.is_before-is_past.result past
