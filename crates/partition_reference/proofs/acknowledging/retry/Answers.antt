use Rattle.partition_reference.proofs.Prelude.{sym, ◌∙◌, same_sub, place_of-within, place_of-change, place_of-none, retry-stale, retry-unknown, Subscription}
use Rattle.partition_reference.proofs.AcknowledgingLemmas.{retry-closed, retry-done}
use Rattle.partition_reference.proofs.acknowledging.retry.Goals as goal

pub returns-then-is_stale : goal.returns-then-is_stale
returns-then-is_stale c = retry-stale c.args.p.now c.args.generation c.args.sub (sym c.is_stale.ensures ∙ c.if-is_stale.true)

pub returns-in_default : goal.returns-in_default
returns-in_default c =
    retry-unknown c.args.p.now c.args.generation c.args.sub (sym c.is_stale.ensures ∙ c.if-is_stale.false)
    (place_of-none same_sub c.args.sub c.args.p.now.subs (sym c.place_of_sub.ensures ∙ c.in_default.is))

pub returns-then-not-found : goal.returns-then-not-found
returns-then-not-found c =
    retry-closed c.args.p.now c.args.generation c.args.sub c.sub_in-found.result.now (sym c.is_stale.ensures ∙ c.if-is_stale.false) c.sub_in-found.ensures c.if-not-found.true

pub set_cursor-requires : goal.set_cursor-requires
set_cursor-requires c = place_of-within same_sub c.args.sub c.in-Some.place c.args.p.now.subs (sym c.place_of_sub.ensures ∙ c.in-Some.is)

pub returns : goal.returns
returns c =
    let p = c.args.p.now in
    let found = c.sub_in-found.result.now in
    let changed = place_of-change same_sub c.args.sub (λ (r : Subscription). record r { cursor = found.resume }) found c.in-Some.place p.subs (sym c.place_of_sub.ensures ∙ c.in-Some.is) c.sub_in-found.ensures in
    retry-done p c.args.generation c.args.sub found c.set_cursor.new.subs (sym c.is_stale.ensures ∙ c.if-is_stale.false) c.sub_in-found.ensures c.if-not-found.false (c.set_cursor.ensures ∙ changed)
