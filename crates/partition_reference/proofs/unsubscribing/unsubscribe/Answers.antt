use Rattle.partition_reference.proofs.Prelude.{sym, ap, length, ◌∙◌, false, same_sub, place_of-change, place_of-within, place_of-none, unsubscribe-implicit, unsubscribe-unknown, Subscription}
use Rattle.partition_reference.proofs.UnsubscribingLemmas.{unsubscribe-closed, unsubscribe-done}
use Rattle.partition_reference.proofs.unsubscribing.unsubscribe.Goals as goal

pub returns-in_default : goal.returns-in_default
returns-in_default c = unsubscribe-unknown c.args.p.now c.args.sub (place_of-none same_sub c.args.sub c.args.p.now.subs (sym c.place_of_sub.ensures ∙ c.in_default.is))

pub returns-in-Implicit : goal.returns-in-Implicit
returns-in-Implicit c =
    unsubscribe-implicit c.args.p.now c.args.sub c.in-Implicit.kind c.in-Implicit.stream c.sub_in-found.result.now c.in-Implicit.is c.sub_in-found.ensures

pub returns-then-not-found : goal.returns-then-not-found
returns-then-not-found c =
    unsubscribe-closed c.args.p.now c.args.sub c.in_default-sub.field-0 c.sub_in-found.result.now c.in_default-sub.is c.sub_in-found.ensures c.if-not-found.true

pub close-requires : goal.close-requires
close-requires c = place_of-within same_sub c.args.sub c.in-Some.place c.args.p.now.subs (sym c.place_of_sub.ensures ∙ c.in-Some.is)

pub returns : goal.returns
returns c =
    let p = c.args.p.now in
    let r = c.sub_in-found.result.now in
    let closed = place_of-change same_sub c.args.sub (λ (r : Subscription). record r { is_open = false }) r c.in-Some.place p.subs (sym c.place_of_sub.ensures ∙ c.in-Some.is) c.sub_in-found.ensures in
    unsubscribe-done p c.args.sub c.in_default-sub.field-0 r c.close.new.subs c.drop_deliveries.new.grains (length c.as_slice-handled.result.now) c.in_default-sub.is c.sub_in-found.ensures c.if-not-found.false
    (c.close.ensures ∙ closed) c.drop_deliveries.ensures (ap length c.as_slice-handled.ensures)
