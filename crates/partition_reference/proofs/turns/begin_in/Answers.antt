use Rattle.partition_reference.proofs.Prelude.{◌≡◌, ◌∷◌, drop, sym, ap, subst, ◌∙◌, begin_in-busy, begin_in-idle, begin_in-nothing, begin_in-front, grain_at-is, none-first, some-first, begin_front, begin_in, Grain}
use Rattle.partition_reference.proofs.turns.begin_in.Goals as goal

pub returns-then-is_some : goal.returns-then-is_some
returns-then-is_some c =
    let p = c.args.p.now in
    let st = c.grain_in-grain.result.now in
    begin_in-busy p c.args.id.now c.args.most st (sym c.is_some.ensures ∙ c.if-is_some.true)
    ∙ ap (begin_in p c.args.id.now c.args.most) (sym (grain_at-is p c.args.id.now st c.grain_in-grain.ensures))

pub returns-then-not-grain : goal.returns-then-not-grain
returns-then-not-grain c =
    let p = c.args.p.now in
    let st = c.grain_in-grain.result.now in
    begin_in-idle p c.args.id.now c.args.most st (sym c.is_some.ensures ∙ c.if-is_some.false) c.if-not-grain.true
    ∙ ap (begin_in p c.args.id.now c.args.most) (sym (grain_at-is p c.args.id.now st c.grain_in-grain.ensures))

pub returns-in_default : goal.returns-in_default
returns-in_default c =
    let p = c.args.p.now in
    let st = c.grain_in-grain.result.now in
    begin_in-nothing p c.args.id.now c.args.most st (sym c.is_some.ensures ∙ c.if-is_some.false) c.if-not-grain.false (none-first c.as_slice.result.now st.mailbox c.as_slice.ensures c.in_default.ensures.value)
    ∙ ap (begin_in p c.args.id.now c.args.most) (sym (grain_at-is p c.args.id.now st c.grain_in-grain.ensures))

pub begin_front-requires-clause-first : goal.begin_front-requires-clause-first
begin_front-requires-clause-first c =
    let p = c.args.p.now in
    let st = c.grain_in-grain.result.now in
    let is_st = grain_at-is p c.args.id.now st c.grain_in-grain.ensures in
    let first = some-first c.as_slice.result.now st.mailbox c.in-Some.front.now c.as_slice.ensures c.in-Some.ensures.value in
    subst (λ (st : Grain). st.mailbox ≡ c.in-Some.front.now ∷ drop 1 st.mailbox) (sym is_st) first

pub returns : goal.returns
returns c =
    let p = c.args.p.now in
    let st = c.grain_in-grain.result.now in
    let is_st = grain_at-is p c.args.id.now st c.grain_in-grain.ensures in
    c.begin_front.ensures
    ∙ (ap (λ (st : Grain). begin_front p c.args.id.now c.args.most st st.mailbox) is_st
    ∙ (begin_in-front p c.args.id.now c.args.most st (sym c.is_some.ensures ∙ c.if-is_some.false) c.if-not-grain.false
    ∙ ap (begin_in p c.args.id.now c.args.most) (sym is_st)))
