use Rattle.partition_reference.proofs.Prelude.{◌+◌, [], None, false, length, sym, ap, ◌∙◌, refl, same_grain, grain_at-is, grain_at-new, place_of-change, place_of-within, deactivate-idle, new_grain, Grain}
use Rattle.partition_reference.proofs.DeactivatingLemmas.{deactivate-done}
use Rattle.partition_reference.proofs.deactivating.deactivate.Goals as goal

pub returns-in_default : goal.returns-in_default
returns-in_default c = deactivate-idle c.args.p.now c.args.grain new_grain (grain_at-new c.args.p.now c.args.grain (sym c.place_of_grain.ensures ∙ c.in_default.is)) refl

pub returns-then-not-found : goal.returns-then-not-found
returns-then-not-found c =
    let st = c.grain_in-found.result.now in
    deactivate-idle c.args.p.now c.args.grain st (grain_at-is c.args.p.now c.args.grain st c.grain_in-found.ensures) c.if-not-found.true

pub leave-requires : goal.leave-requires
leave-requires c = place_of-within same_grain c.args.grain c.in-Some.at c.args.p.now.grains (sym c.place_of_grain.ensures ∙ c.in-Some.is)

pub returns : goal.returns
returns c =
    let p = c.args.p.now in
    let g = c.args.grain in
    let st = c.grain_in-found.result.now in
    let waits = c.waiting_count.result in
    let runs = c.running_count.result in
    let lost = ap (λ n. n + runs) c.waiting_count.ensures.count ∙ ap (λ n. length st.mailbox + n) c.running_count.ensures.count in
    let left = place_of-change same_grain g (λ (st : Grain). record st { active = false; mailbox = []; running = None }) st c.in-Some.at p.grains (sym c.place_of_grain.ensures ∙ c.in-Some.is) c.grain_in-found.ensures in
    deactivate-done p g st c.rewind.new.subs c.leave.new.grains (waits + runs) (grain_at-is p g st c.grain_in-found.ensures) c.if-not-found.false c.rewind.ensures (c.leave.ensures ∙ left) lost
