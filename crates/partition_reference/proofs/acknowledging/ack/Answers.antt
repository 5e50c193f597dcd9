use Rattle.partition_reference.proofs.Prelude.{sym, ap, ◌∙◌, same_sub, with_value, place_of-within, place_of-change, place_of-none, ack-stale, ack-unknown, Subscription}
use Rattle.partition_reference.proofs.AcknowledgingLemmas.{ack-closed, ack-nothing, ack-done, acknowledged-marks}
use Rattle.stream_model.proofs.RecordBounds.{handled-in}
use Rattle.partition_reference.proofs.acknowledging.ack.Goals as goal

pub returns-then-is_stale : goal.returns-then-is_stale
returns-then-is_stale c =
    ack-stale c.args.p.now c.args.generation c.args.sub c.args.token (sym c.is_stale.ensures ∙ c.if-is_stale.true)

pub returns-in_default : goal.returns-in_default
returns-in_default c =
    ack-unknown c.args.p.now c.args.generation c.args.sub c.args.token (sym c.is_stale.ensures ∙ c.if-is_stale.false)
    (place_of-none same_sub c.args.sub c.args.p.now.subs (sym c.place_of_sub.ensures ∙ c.in_default.is))

pub returns-then-not-found : goal.returns-then-not-found
returns-then-not-found c =
    ack-closed c.args.p.now c.args.generation c.args.sub c.args.token c.sub_in-found.result.now (sym c.is_stale.ensures ∙ c.if-is_stale.false) c.sub_in-found.ensures c.if-not-found.true

pub first_handled-requires : goal.first_handled-requires
first_handled-requires c = handled-in c.args.p.now c.args.sub c.sub_in-found.result.now c.requires c.sub_in-found.ensures

pub returns-in_default-first_handled : goal.returns-in_default-first_handled
returns-in_default-first_handled c =
    ack-nothing c.args.p.now c.args.generation c.args.sub c.args.token c.sub_in-found.result.now (sym c.is_stale.ensures ∙ c.if-is_stale.false) c.sub_in-found.ensures c.if-not-found.false (sym c.first_handled.ensures.exact ∙ c.in_default-first_handled.is)

pub set_marks-requires : goal.set_marks-requires
set_marks-requires c = place_of-within same_sub c.args.sub c.in-Some.place c.args.p.now.subs (sym c.place_of_sub.ensures ∙ c.in-Some.is)

pub returns : goal.returns
returns c =
    let p = c.args.p.now in
    let found = c.sub_in-found.result.now in
    let position = c.in-Some-first_handled.position in
    let resume = c.max-resume.result in
    let cursor = c.max-cursor.result in
    let changed = place_of-change same_sub c.args.sub (λ (r : Subscription). record r { cursor = cursor; resume = resume }) found c.in-Some.place p.subs (sym c.place_of_sub.ensures ∙ c.in-Some.is) c.sub_in-found.ensures in
    let marks = acknowledged-marks found position resume cursor c.max-resume.ensures c.max-cursor.ensures in
    ack-done p c.args.generation c.args.sub c.args.token found position c.set_marks.new.subs (sym c.is_stale.ensures ∙ c.if-is_stale.false) c.sub_in-found.ensures c.if-not-found.false (sym c.first_handled.ensures.exact ∙ c.in-Some-first_handled.is)
    (c.set_marks.ensures ∙ (changed ∙ ap (λ r. with_value same_sub c.args.sub r p.subs) marks))
