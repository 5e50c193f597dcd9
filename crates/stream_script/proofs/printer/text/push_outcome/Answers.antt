use Rattle.stream_script.proofs.Prelude.{refl, append_assoc, subst, sym}
use Rattle.step_core.specs.Replied.{reply_with}
use Rattle.stream_script.specs.Replies.{reply_text}
use Rattle.stream_script.specs.Writing.{Writes}
use Rattle.stream_script.proofs.Texts.{appended, writes_then}
use Rattle.stream_script.proofs.printer.text.push_outcome.Goals as goal

pub returns-in_ok-push_events_at-in-Turn : goal.returns-in_ok-push_events_at-in-Turn
unfolding reply_text
returns-in_ok-push_events_at-in-Turn c =
    let log = c.args.partition.now.log in
    let front = appended c.args.out.now.items _ _ _ _ _ c.in_ok-push_running-in-Turn.ensures (rw c.as_slice.ensures.values at c.in_ok-push_events_at-in-Turn.ensures) refl in
    subst (λ came. Writes c.args.out.now.items c.push_count.new.out.items c.push_count.result (reply_text (reply_with log came))) (sym c.in-Turn.is)
    (writes_then c.args.out.now.items _ _ _ _ _ _ front c.push_count.ensures (simp append_assoc))
