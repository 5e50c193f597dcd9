use Rattle.script_runs.proofs.Prelude.{◌≡◌, ◌∙◌, ◌++◌, arith, ap, get_or, length, sym, append-nil, Reply, PlainPartition, recorded}
use Rattle.step_core.specs.Replied.{reply_with}
use Rattle.script_runs.specs.Traces.{heading}
use Rattle.script_runs.proofs.Printing.{printed-all, printed-next}
use Rattle.script_runs.proofs.traces.trace.queue_trace.Goals as goal

pub loop-asked-init : goal.loop-asked-init
loop-asked-init c =
    record {
      text_is = c.in_ok-push_heading.ensures ∙ ap (λ before. before ++ heading c.args.queue) c.new-text.ensures.items ∙ sym (append-nil (heading c.args.queue));
      legal = c.requires;
    }

pub loop-asked-preserved : goal.loop-asked-preserved
loop-asked-preserved c =
    let history = c.args.history.now in
    let k = c.loop-asked.asked-index in
    let asked = c.asked-item.result in
    let same = c.as_slice-asked-items.ensures in
    let is : asked ≡ get_or history.asked.items k asked = c.asked-item.is ∙ ap (λ l. get_or l k asked) same in
    printed-next c.args.calls c.args.queue (heading c.args.queue) history.asked.items (recorded history.replies) k asked c.loop-asked.text.items c.push_shown.new.text.items c.loop-asked.partition c.advance.new.self (reply_with c.advance.new.self.log c.in_ok-outcome.outcome)
    history.counted (omega (arith, c.loop-asked-test.true, ap length same)) is c.loop-asked.invariant (ap (λ (x : PlainPartition × Reply). x.0) c.in_ok-outcome.ensures.performs) (ap (λ (x : PlainPartition × Reply). x.1) c.in_ok-outcome.ensures.performs) c.in_ok-push_shown.ensures

pub returns : goal.returns
returns c =
    let history = c.args.history.now in
    let k = c.loop-asked.asked-index in
    let all : k ≡ length history.asked.items = omega (arith, c.loop-asked-test.false, c.loop-asked.auto.asked-index-end, ap length c.as_slice-asked-items.ensures) in
    printed-all c.args.calls c.args.queue (heading c.args.queue) history.asked.items (recorded history.replies) k c.loop-asked.text.items c.loop-asked.partition history.counted all c.loop-asked.invariant
