use Rattle.partition_reference.proofs.Prelude.{◌≡◌, ◌-◌, ◌∙◌, min, ap, sym, length, performs-along, memory-along, pull-dry, pull-some, pull-stale}
use Rattle.stream_ident.specs.Blocks.{pull_size}
use Rattle.partition_reference.proofs.pulling.pull.Goals as goal

pub returns-then-is_stale-clause-performs : goal.returns-then-is_stale-clause-performs
returns-then-is_stale-clause-performs c =
    pull-stale c.args.p.now c.args.generation c.args.max (sym c.is_stale.ensures ∙ c.if-is_stale.true)

pub returns-then-p-queued-clause-performs : goal.returns-then-p-queued-clause-performs
returns-then-p-queued-clause-performs c =
    sym (pull-dry c.args.p.now c.args.generation c.args.max (sym c.is_stale.ensures ∙ c.if-is_stale.false) (c.if-p-queued.true ∙ ap length c.as_slice-queued.ensures))

pub returns-clause-performs : goal.returns-clause-performs
returns-clause-performs c =
    let p = c.args.p.now in
    let queued = ap length c.as_slice-queued.ensures in
    let left = c.saturating_sub.ensures ∙ ap (λ n. n - p.high) queued in
    let want : c.min-want.result ≡ min (pull_size c.args.max) (length p.log - p.high) =
    c.min-want.ensures ∙ (λ i. min (c.pull_size.ensures.size i) (left i))
    in
    performs-along p c.pull_want.new.p c.pull_want.result _ _ (pull-some p c.args.generation c.args.max c.min-want.result (sym c.is_stale.ensures ∙ c.if-is_stale.false) (λ same. c.if-p-queued.false (same ∙ sym queued)) want) c.pull_want.ensures.performs

pub returns-clause-memory : goal.returns-clause-memory
returns-clause-memory c =
    let p = c.args.p.now in
    let queued = ap length c.as_slice-queued.ensures in
    let left = c.saturating_sub.ensures ∙ ap (λ n. n - p.high) queued in
    let want : c.min-want.result ≡ min (pull_size c.args.max) (length p.log - p.high) =
    c.min-want.ensures ∙ (λ i. min (c.pull_size.ensures.size i) (left i))
    in
    memory-along c.pull_want.result _ _ (pull-some p c.args.generation c.args.max c.min-want.result (sym c.is_stale.ensures ∙ c.if-is_stale.false) (λ same. c.if-p-queued.false (same ∙ sym queued)) want) c.pull_want.ensures.memory
