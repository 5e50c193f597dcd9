use Rattle.partition_reference.proofs.Prelude.{drop, sym, ap, ◌∙◌, same_grain, begin_front-unknown, begin_front-handled, begin_front-spent, begin_front-turn, grain_at-place, place_of-within, place_of-change, grain_at, Reply, Grain, PlainPartition}
use Rattle.stream_model.specs.declared.reply.Reply.TheVariants as reply
use Rattle.partition_reference.proofs.turns.begin_front.Goals as goal

pub returns-in_default : goal.returns-in_default
returns-in_default c =
    let p = c.args.p.now in
    begin_front-unknown p c.args.id.now c.args.most (grain_at p c.args.id.now) c.args.front (drop 1 (grain_at p c.args.id.now).mailbox) c.requires.first (sym c.place_of_sub.ensures ∙ c.in_default.is)

pub drop_delivery-requires : goal.drop_delivery-requires
drop_delivery-requires c = place_of-within same_grain c.args.id.now c.args.at c.args.p.now.grains c.requires.place

pub returns-then-is_handled : goal.returns-then-is_handled
returns-then-is_handled c =
    let p = c.args.p.now in
    let st = grain_at p c.args.id.now in
    let changed = place_of-change same_grain c.args.id.now (λ (st : Grain). record st { mailbox = drop 1 st.mailbox }) st c.args.at p.grains c.requires.place (grain_at-place p c.args.id.now c.args.at c.requires.place) in
    ap {B = PlainPartition × Reply} (λ token. (record p { grains = c.drop_delivery.new.grains }, reply.Dropped c.args.front.sub token)) c.token_at-token.ensures
    ∙ begin_front-handled p c.args.id.now c.args.most st c.args.front c.sub_in-sub.result.now c.drop_delivery.new.grains c.requires.first c.sub_in-sub.ensures (sym c.is_handled.ensures ∙ c.if-is_handled.true) (c.drop_delivery.ensures ∙ changed)

pub returns-then-is_spent : goal.returns-then-is_spent
returns-then-is_spent c =
    let p = c.args.p.now in
    begin_front-spent p c.args.id.now c.args.most (grain_at p c.args.id.now) c.args.front c.sub_in-sub.result.now c.requires.first c.sub_in-sub.ensures (sym c.is_handled.ensures ∙ c.if-is_handled.false) (sym c.is_spent.ensures ∙ c.if-is_spent.true)

pub returns : goal.returns
returns c =
    let p = c.args.p.now in
    c.begin_turn.ensures ∙ begin_front-turn p c.args.id.now c.args.most (grain_at p c.args.id.now) c.args.front c.sub_in-sub.result.now c.requires.first c.sub_in-sub.ensures (sym c.is_handled.ensures ∙ c.if-is_handled.false) (sym c.is_spent.ensures ∙ c.if-is_spent.false)
