use Rattle.partition_reference.proofs.Prelude.{◌∙◌, ◌+◌, ◌++◌, ◌∷◌, [], length, ap, sym, arith, on-error, subscribe-full, subscribe-made, subscribe-takes_memory}
use Rattle.stream_ident.specs.declared.ident.SubName.TheVariants as name
use Rattle.partition_reference.proofs.publishing.subscribe_at.Goals as goal

pub returns-then-as_slice-p-clause-performs : goal.returns-then-as_slice-p-clause-performs
returns-then-as_slice-p-clause-performs c =
    let held = ap length c.as_slice.ensures in
    sym (subscribe-full c.args.p.now c.args.stream c.args.grain c.args.start c.args.position (omega arith))

pub returns-in_err-push-clause-memory : goal.returns-in_err-push-clause-memory
returns-in_err-push-clause-memory c =
    let held = ap length c.as_slice.ensures in
    on-error c.from_residual.result (subscribe-takes_memory c.args.p.now c.args.stream c.args.grain c.args.start c.args.position (omega arith))

pub returns-clause-performs : goal.returns-clause-performs
returns-clause-performs c =
    let held = ap length c.as_slice.ensures in
    let p = c.args.p.now in
    let subs = c.in_ok-push.ensures ∙ ap (λ sub. p.subs ++ (name.Explicit (p.explicit + 1), sub) ∷ []) c.new_subscription-sub.ensures in
    subscribe-made p c.args.stream c.args.grain c.args.start c.args.position c.push.new.self (omega arith) c.requires.names subs
