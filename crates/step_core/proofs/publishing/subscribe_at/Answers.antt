use Rattle.step_core.proofs.Prelude.{Added, ◌≡◌, ◌∙◌, ap, sym, subst, arith, on-error, Reply, PlainPartition, PlainTable}
use Rattle.step_core.specs.Assembly.{IsAssembled}
use Rattle.step_core.specs.PlainOf.{plain_of}
use Rattle.step_core.proofs.AddedOps.{added-assembled, added-memory, added-performs}
use Rattle.step_core.proofs.Shared.{high-end}
use Rattle.step_core.proofs.publishing.subscribe_at.Goals as goal

pub subscribe-requires : goal.subscribe-requires
subscribe-requires c = omega (arith, high-end c.args.parts.now c.requires.agrees, c.requires.agrees.within.events, c.requires.agrees.within.limits.events)

pub returns-in_err-added-clause-assembled : goal.returns-in_err-added-clause-assembled
returns-in_err-added-clause-assembled c =
    let parts = c.args.parts.now in
    subst (λ (subs : PlainTable). IsAssembled (record parts { subs = subs })) (sym c.in_err-added.ensures.performs) c.requires.agrees.assembled

pub returns-in_err-added-clause-memory : goal.returns-in_err-added-clause-memory
returns-in_err-added-clause-memory c =
    on-error c.from_residual.result
    (added-memory c.args.parts.now c.args.stream.now c.args.grain.now c.args.start c.args.position c.requires.agrees c.requires.agrees.records c.in_err-added.ensures.memory)

pub returns-clause-assembled : goal.returns-clause-assembled
returns-clause-assembled c =
    let parts = c.args.parts.now in
    let new : c.subscribe.new.self ≡ _ = ap (λ (stepped : PlainTable × Added). stepped.0) c.in_ok-added.ensures.performs in
    subst (λ (subs : PlainTable). IsAssembled (record parts { subs = subs })) (sym new)
    (added-assembled parts c.args.stream.now c.args.grain.now c.args.start c.args.position c.requires.agrees)

pub returns-clause-performs : goal.returns-clause-performs
returns-clause-performs c =
    let parts = c.args.parts.now in
    ap {B = PlainPartition × Reply} (λ told. (plain_of (record parts { subs = c.subscribe.new.self }), told)) c.told_of_sub.ensures.reply
    ∙ added-performs parts c.args.stream.now c.args.grain.now c.args.start c.args.position c.subscribe.new.self c.in_ok-added.added c.requires.agrees c.requires.agrees.records c.in_ok-added.ensures.performs
