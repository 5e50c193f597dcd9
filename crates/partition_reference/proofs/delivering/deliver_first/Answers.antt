use Rattle.partition_reference.proofs.Prelude.{◌≡◌, ◌+◌, suc, sym, ap, ◌∙◌, arith, same_grain, same_sub, with_value, on-error, place_of-within, place_of-change, place_of-added, new_grain, woken, Subscription}
use Rattle.partition_reference.proofs.Handing.{deliver_position-spent, deliver_position-done, deliver_position-takes}
use Rattle.partition_reference.proofs.delivering.deliver_first.Goals as goal

pub set_cursor-requires : goal.set_cursor-requires
set_cursor-requires c = place_of-within same_sub c.args.sub.now c.args.place c.args.p.now.subs c.requires.place

pub returns-then-is_spent-clause-performs : goal.returns-then-is_spent-clause-performs
returns-then-is_spent-clause-performs c = λ r is_r is_grain.
    deliver_position-spent c.args.p.now c.args.sub.now r new_grain c.args.position (omega arith) (sym c.is_spent.ensures ∙ c.if-is_spent.true)

pub returns-in_err-add_grain-clause-memory : goal.returns-in_err-add_grain-clause-memory
returns-in_err-add_grain-clause-memory c = λ r is_r is_grain.
    on-error c.from_residual.result (deliver_position-takes c.args.p.now c.args.sub.now r new_grain c.args.position (omega arith) (sym c.is_spent.ensures ∙ c.if-is_spent.false))

pub returns-clause-performs : goal.returns-clause-performs
returns-clause-performs c = λ r is_r is_grain.
    let p = c.args.p.now in
    let next : c.args.position + 1 ≡ suc c.args.position = omega arith in
    let rises : p.rises + 1 ≡ suc p.rises = omega arith in
    let is_subs = c.set_cursor.ensures ∙ (place_of-change same_sub c.args.sub.now (λ (r : Subscription). record r { cursor = c.args.position + 1 }) r c.args.place p.subs c.requires.place is_r ∙ ap (λ cursor. with_value same_sub c.args.sub.now (record r { cursor = cursor }) p.subs) next) in
    let is_grains = c.in_ok-add_grain.ensures ∙ (sym (place_of-added same_grain c.args.id (woken new_grain c.args.sub.now c.args.position) p.grains c.requires.first) ∙ ap (λ id. with_value same_grain id (woken new_grain c.args.sub.now c.args.position) p.grains) (sym is_grain)) in
    deliver_position-done p c.args.sub.now r new_grain c.args.position c.set_cursor.new.subs c.add_grain.new.grains (p.rises + 1) c.token_at-token.result (omega arith) (sym c.is_spent.ensures ∙ c.if-is_spent.false) is_subs is_grains rises c.token_at-token.ensures
