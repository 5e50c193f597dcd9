use Rattle.stream_script.proofs.Prelude.{refl, append_assoc, subst, sym}
use Rattle.stream_model.proofs.Retyping.{with-same}
use Rattle.stream_script.specs.Replies.{reply_text}
use Rattle.stream_script.specs.Writing.{Writes}
use Rattle.stream_script.proofs.Texts.{appended, writes_then}
use Rattle.stream_script.proofs.printer.text.push_reply.Goals as goal

pub returns-in_ok-push_events-in-Turn : goal.returns-in_ok-push_events-in-Turn
unfolding reply_text
returns-in_ok-push_events-in-Turn c =
    let front = appended c.args.out.now.items _ _ _ _ _ c.in_ok-push_running-in-Turn.ensures (rw c.as_slice.ensures.values at c.in_ok-push_events-in-Turn.ensures) refl in
    subst (λ r. Writes c.args.out.now.items c.push_count.new.out.items c.push_count.result (reply_text r)) (sym c.in-Turn.is)
    (writes_then c.args.out.now.items _ _ _ _ _ _ front c.push_count.ensures (simp append_assoc))

pub returns-in_default : goal.returns-in_default
returns-in_default c =
    subst (λ r. Writes c.args.out.now.items c.push_told.new.out.items c.push_told.result (reply_text r)) (with-same c.args.reply.now)
    (c.push_told.ensures (λ events. events))
