use Rattle.partition_reference.proofs.Prelude.{None, sym, ap, ◌∙◌, same_grain, same_sub, on-error, grain_at-place, place_of-within, place_of-change, change_at, handled_also, grain_at, token_at, Grain}
use Rattle.stream_model.proofs.Committing.{commit_for-unknown, commit_for-closed, commit_for-done, commit_for-takes}
use Rattle.partition_reference.proofs.turns.commit_run.Goals as goal

pub returns-in_default-clause-performs : goal.returns-in_default-clause-performs
returns-in_default-clause-performs c =
    let p = c.args.p.now in
    commit_for-unknown p c.args.id.now (grain_at p c.args.id.now) c.args.run.now c.args.note (sym c.place_of_sub.ensures ∙ c.in_default.is)

pub end_turn-requires : goal.end_turn-requires
end_turn-requires c = place_of-within same_grain c.args.id.now c.args.at c.args.p.now.grains c.requires

pub end_turn-requires-2 : goal.end_turn-requires-2
end_turn-requires-2 c = place_of-within same_grain c.args.id.now c.args.at c.args.p.now.grains c.requires

pub handle-requires : goal.handle-requires
handle-requires c = place_of-within same_sub c.args.run.now.sub c.in-Some.place c.args.p.now.subs (sym c.place_of_sub.ensures ∙ c.in-Some.is)

pub returns-then-not-sub-clause-performs : goal.returns-then-not-sub-clause-performs
returns-then-not-sub-clause-performs c =
    let p = c.args.p.now in
    let st = grain_at p c.args.id.now in
    let changed = place_of-change same_grain c.args.id.now (λ (st : Grain). record st { running = None }) st c.args.at p.grains c.requires (grain_at-place p c.args.id.now c.args.at c.requires) in
    commit_for-closed p c.args.id.now st c.args.run.now c.args.note c.sub_in-sub.result.now c.end_turn.new.grains c.sub_in-sub.ensures c.if-not-sub.true (c.end_turn.ensures ∙ changed)

pub returns-in_err-handle-clause-memory : goal.returns-in_err-handle-clause-memory
returns-in_err-handle-clause-memory c =
    let p = c.args.p.now in
    on-error c.from_residual.result (commit_for-takes p c.args.id.now (grain_at p c.args.id.now) c.args.run.now c.args.note c.sub_in-sub.result.now c.sub_in-sub.ensures c.if-not-sub.false)

pub returns-clause-performs : goal.returns-clause-performs
returns-clause-performs c =
    let p = c.args.p.now in
    let st = grain_at p c.args.id.now in
    let run = c.args.run.now in
    let r = c.sub_in-sub.result.now in
    let changed = place_of-change same_grain c.args.id.now (λ (st : Grain). record st { running = None }) st c.args.at p.grains c.requires (grain_at-place p c.args.id.now c.args.at c.requires) in
    let handled = place_of-change same_sub run.sub (handled_also run.positions c.args.note) r c.in-Some.place p.subs (sym c.place_of_sub.ensures ∙ c.in-Some.is) c.sub_in-sub.ensures in
    commit_for-done p c.args.id.now st run c.args.note r c.handle.new.subs c.end_turn-2.new.grains c.token_at-token.result c.sub_in-sub.ensures c.if-not-sub.false (c.in_ok-handle.ensures ∙ (ap (λ positions. change_at (handled_also positions c.args.note) c.in-Some.place p.subs) c.as_slice.ensures.values ∙ handled)) (c.end_turn-2.ensures ∙ changed) (c.token_at-token.ensures ∙ ap (token_at p) c.last_position.ensures)
