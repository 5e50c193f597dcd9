use Rattle.partition_reference.proofs.Prelude.{◌≡◌, ◌∙◌, ap, sym, true, false, token_lt, performs-along, memory-along, subscribe-latest, subscribe-at, subscribe-miss, low_token}
use Rattle.stream_model.specs.declared.reply.Reply.TheVariants as reply
use Rattle.partition_reference.proofs.publishing.subscribe.Goals as goal

pub returns-then-is_token_before-clause-performs : goal.returns-then-is_token_before-clause-performs
returns-then-is_token_before-clause-performs c =
    let p = c.args.p.now in
    let token = c.in-At.token in
    let missed : token_lt token (low_token p) ≡ true =
    ap (token_lt token) (sym c.low_token-low.ensures) ∙ sym c.is_token_before.ensures ∙ c.if-is_token_before.true
    in
    ap (λ low. (p, reply.Miss token low c.high_token-high.result)) c.low_token-low.ensures
    ∙ ap (λ high. (p, reply.Miss token (low_token p) high)) c.high_token-high.ensures
    ∙ sym (subscribe-miss p c.args.stream c.args.grain c.args.start token c.in-At.is missed)

pub returns-in-Latest-clause-performs : goal.returns-in-Latest-clause-performs
returns-in-Latest-clause-performs c =
    performs-along c.args.p.now c.subscribe_at.new.p c.subscribe_at.result _ _ (subscribe-latest c.args.p.now c.args.stream c.args.grain c.args.start c.first_token-token.result c.in-Latest.is c.first_token-token.ensures) c.subscribe_at.ensures.performs

pub returns-in-Latest-clause-memory : goal.returns-in-Latest-clause-memory
returns-in-Latest-clause-memory c =
    memory-along c.subscribe_at.result _ _ (subscribe-latest c.args.p.now c.args.stream c.args.grain c.args.start c.first_token-token.result c.in-Latest.is c.first_token-token.ensures) c.subscribe_at.ensures.memory

pub returns-else-is_token_before-clause-performs : goal.returns-else-is_token_before-clause-performs
returns-else-is_token_before-clause-performs c =
    let p = c.args.p.now in
    let token = c.in-At.token in
    let there : token_lt token (low_token p) ≡ false =
    ap (token_lt token) (sym c.low_token-low.ensures) ∙ sym c.is_token_before.ensures ∙ c.if-is_token_before.false
    in
    performs-along p c.subscribe_at-in-At.new.p c.subscribe_at-in-At.result _ _ (subscribe-at p c.args.stream c.args.grain c.args.start token c.lower_bound-position.result c.in-At.is there c.lower_bound-position.ensures) c.subscribe_at-in-At.ensures.performs

pub returns-else-is_token_before-clause-memory : goal.returns-else-is_token_before-clause-memory
returns-else-is_token_before-clause-memory c =
    let p = c.args.p.now in
    let token = c.in-At.token in
    let there : token_lt token (low_token p) ≡ false =
    ap (token_lt token) (sym c.low_token-low.ensures) ∙ sym c.is_token_before.ensures ∙ c.if-is_token_before.false
    in
    memory-along c.subscribe_at-in-At.result _ _ (subscribe-at p c.args.stream c.args.grain c.args.start token c.lower_bound-position.result c.in-At.is there c.lower_bound-position.ensures) c.subscribe_at-in-At.ensures.memory
