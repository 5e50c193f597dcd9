use Rattle.partition_reference.proofs.Prelude.{◌∙◌, ap, sym, length, arith, on-error, subs_up_to, counted-up_to, events-full, events-made, events-take_memory, between, subs_with}
use Rattle.partition_reference.proofs.pulling.pull_events.Goals as goal

pub returns-then-as_slice-count-clause-performs : goal.returns-then-as_slice-count-clause-performs
returns-then-as_slice-count-clause-performs c =
    let p = c.args.p.now in
    let size = counted-up_to p c.args.high c.count_new-count.result c.as_slice.result.now c.between-events.result.now c.as_slice-rules.result.now c.as_slice-2.result.now c.as_slice.ensures c.between-events.ensures c.as_slice-rules.ensures c.as_slice-2.ensures (c.count_new-count.ensures.count p.high) in
    let held = ap length c.as_slice-3.ensures in
    sym (events-full p c.args.low c.args.high (subs_up_to p c.args.high) (omega arith))

pub returns-in_err-add_implied-clause-memory : goal.returns-in_err-add_implied-clause-memory
returns-in_err-add_implied-clause-memory c =
    let p = c.args.p.now in
    let size = counted-up_to p c.args.high c.count_new-count.result c.as_slice.result.now c.between-events.result.now c.as_slice-rules.result.now c.as_slice-2.result.now c.as_slice.ensures c.between-events.ensures c.as_slice-rules.ensures c.as_slice-2.ensures (c.count_new-count.ensures.count p.high) in
    let held = ap length c.as_slice-3.ensures in
    on-error c.from_residual.result (events-take_memory p c.args.low c.args.high (subs_up_to p c.args.high) (omega arith))

pub returns-clause-performs : goal.returns-clause-performs
returns-clause-performs c =
    let p = c.args.p.now in
    let size = counted-up_to p c.args.high c.count_new-count.result c.as_slice.result.now c.between-events.result.now c.as_slice-rules.result.now c.as_slice-2.result.now c.as_slice.ensures c.between-events.ensures c.as_slice-rules.ensures c.as_slice-2.ensures (c.count_new-count.ensures.count p.high) in
    let held = ap length c.as_slice-3.ensures in
    let events = c.between-events.ensures ∙ ap (λ log. between log p.high c.args.high) c.as_slice.ensures in
    let made = c.in_ok-add_implied.ensures ∙ (λ i. subs_with (c.as_slice-rules.ensures i) p.high p.subs (events i)) in
    events-made p c.args.low c.args.high (subs_up_to p c.args.high) c.add_implied.new.subs c.token_at-low_token.result c.token_at-high_token.result (omega arith) made c.token_at-low_token.ensures c.token_at-high_token.ensures
