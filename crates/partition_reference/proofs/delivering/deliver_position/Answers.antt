use Rattle.partition_reference.proofs.Prelude.{◌≡◌, ◌+◌, ◌<◌, ◌≤◌, suc, length, true, Some, refl, sym, ap, subst, ◌∙◌, arith, OnErr, same_grain, same_sub, Performs, with_value, MAILBOX_PLACES, on-error, grain_at-is, grain_at-new, place_of-within, place_of-change, grain_at, woken, takes_memory, Subscription}
use Rattle.stream_model.specs.declared.reply.Reply.TheVariants as reply
use Rattle.stream_model.specs.Pulling.{deliver_position}
use Rattle.partition_reference.proofs.Handing.{activations-fit, at-found, deliver_position-full, deliver_position-spent, deliver_position-done, deliver_position-takes, rises-woken}
use Rattle.partition_reference.proofs.delivering.deliver_position.Goals as goal

pub wake-requires-clause-within : goal.wake-requires-clause-within
wake-requires-clause-within c = place_of-within same_grain c.sub_in.result.now.grain c.in-Some.at c.args.p.now.grains (sym c.place_of_grain.ensures ∙ c.in-Some.is)

pub wake-requires-clause-room : goal.wake-requires-clause-room
wake-requires-clause-room c = activations-fit c.args.p.now c.requires.within

pub set_cursor-requires : goal.set_cursor-requires
set_cursor-requires c = place_of-within same_sub c.args.sub.now c.args.place c.args.p.now.subs c.requires.place

pub returns-in_default-clause-performs : goal.returns-in_default-clause-performs
returns-in_default-clause-performs c = λ r is_r.
    let p = c.args.p.now in
    let s = c.args.sub.now in
    let found = c.sub_in.result.now in
    let is_new = grain_at-new p found.grain (sym c.place_of_grain.ensures ∙ c.in_default.is) in
    let first = c.deliver_first.ensures.performs found c.sub_in.ensures refl in
    at-found (λ r. Performs p c.deliver_first.new.p c.deliver_first.result (deliver_position p s r (grain_at p r.grain) (Some c.args.position))) p s found r c.sub_in.ensures is_r
    (subst (λ st. Performs p c.deliver_first.new.p c.deliver_first.result (deliver_position p s found st (Some c.args.position))) (sym is_new) first)

pub returns-in_default-clause-memory : goal.returns-in_default-clause-memory
returns-in_default-clause-memory c = λ r is_r.
    let p = c.args.p.now in
    let s = c.args.sub.now in
    let found = c.sub_in.result.now in
    let is_new = grain_at-new p found.grain (sym c.place_of_grain.ensures ∙ c.in_default.is) in
    let first = c.deliver_first.ensures.memory found c.sub_in.ensures refl in
    at-found (λ r. OnErr c.deliver_first.result (takes_memory (deliver_position p s r (grain_at p r.grain) (Some c.args.position)).1 ≡ true)) p s found r c.sub_in.ensures is_r
    (subst (λ st. OnErr c.deliver_first.result (takes_memory (deliver_position p s found st (Some c.args.position)).1 ≡ true)) (sym is_new) first)

pub returns-then-as_slice-ge-MAILBOX_PLACES-clause-performs : goal.returns-then-as_slice-ge-MAILBOX_PLACES-clause-performs
returns-then-as_slice-ge-MAILBOX_PLACES-clause-performs c = λ r is_r.
    let p = c.args.p.now in
    let s = c.args.sub.now in
    let found = c.sub_in.result.now in
    let st = c.grain_in-grain.result.now in
    let is_st = grain_at-is p found.grain st c.grain_in-grain.ensures in
    let full : MAILBOX_PLACES ≤ length st.mailbox = omega (arith, ap length c.as_slice.ensures) in
    at-found (λ r. (p, reply.MailboxFull) ≡ deliver_position p s r (grain_at p r.grain) (Some c.args.position)) p s found r c.sub_in.ensures is_r
    (deliver_position-full p s found st c.args.position full ∙ ap (λ st. deliver_position p s found st (Some c.args.position)) (sym is_st))

pub returns-then-lacks_rise-clause-performs : goal.returns-then-lacks_rise-clause-performs
returns-then-lacks_rise-clause-performs c = λ r is_r.
    let p = c.args.p.now in
    let s = c.args.sub.now in
    let found = c.sub_in.result.now in
    let st = c.grain_in-grain.result.now in
    let is_st = grain_at-is p found.grain st c.grain_in-grain.ensures in
    let room : length st.mailbox < MAILBOX_PLACES = omega (arith, ap length c.as_slice.ensures) in
    at-found (λ r. (p, reply.Spent) ≡ deliver_position p s r (grain_at p r.grain) (Some c.args.position)) p s found r c.sub_in.ensures is_r
    (deliver_position-spent p s found st c.args.position room (sym c.lacks_rise.ensures ∙ c.if-lacks_rise.true) ∙ ap (λ st. deliver_position p s found st (Some c.args.position)) (sym is_st))

pub returns-in_err-wake-clause-memory : goal.returns-in_err-wake-clause-memory
returns-in_err-wake-clause-memory c = λ r is_r.
    let p = c.args.p.now in
    let s = c.args.sub.now in
    let found = c.sub_in.result.now in
    let st = c.grain_in-grain.result.now in
    let is_st = grain_at-is p found.grain st c.grain_in-grain.ensures in
    let room : length st.mailbox < MAILBOX_PLACES = omega (arith, ap length c.as_slice.ensures) in
    let takes = deliver_position-takes p s found st c.args.position room (sym c.lacks_rise.ensures ∙ c.if-lacks_rise.false) in
    on-error c.from_residual.result
    (at-found (λ r. takes_memory (deliver_position p s r (grain_at p r.grain) (Some c.args.position)).1 ≡ true) p s found r c.sub_in.ensures is_r
    (subst (λ st. takes_memory (deliver_position p s found st (Some c.args.position)).1 ≡ true) (sym is_st) takes))

pub returns-clause-performs : goal.returns-clause-performs
returns-clause-performs c = λ r is_r.
    let p = c.args.p.now in
    let s = c.args.sub.now in
    let position = c.args.position in
    let found = c.sub_in.result.now in
    let st = c.grain_in-grain.result.now in
    let is_st = grain_at-is p found.grain st c.grain_in-grain.ensures in
    let room : length st.mailbox < MAILBOX_PLACES = omega (arith, ap length c.as_slice.ensures) in
    let next : position + 1 ≡ suc position = omega arith in
    let is_subs = c.set_cursor.ensures ∙ (place_of-change same_sub s (λ (r : Subscription). record r { cursor = position + 1 }) found c.args.place p.subs c.requires.place c.sub_in.ensures ∙ ap (λ cursor. with_value same_sub s (record found { cursor = cursor }) p.subs) next) in
    let is_grains = c.in_ok-wake.ensures ∙ place_of-change same_grain found.grain (λ st. woken st s position) st c.in-Some.at p.grains (sym c.place_of_grain.ensures ∙ c.in-Some.is) c.grain_in-grain.ensures in
    let done = deliver_position-done p s found st position c.set_cursor.new.subs c.wake.new.grains (p.rises + c.from-rises.result) c.token_at-token.result room (sym c.lacks_rise.ensures ∙ c.if-lacks_rise.false) is_subs is_grains (rises-woken st.active p.rises c.from-rises.result c.from-rises.ensures) c.token_at-token.ensures in
    at-found (λ r. (record p { subs = c.set_cursor.new.subs; grains = c.wake.new.grains; rises = p.rises + c.from-rises.result }, reply.Delivered c.token_at-token.result) ≡ deliver_position p s r (grain_at p r.grain) (Some position)) p s found r c.sub_in.ensures is_r
    (done ∙ ap (λ st. deliver_position p s found st (Some position)) (sym is_st))
