use Rattle.turnstile.proofs.Prelude.{◌≡◌, ◌∙◌, arith, ap, get_or, length}
use Rattle.turnstile.specs.Recorded.{recorded}
use Rattle.turnstile.proofs.Answering.{again_done, again_all}
use Rattle.turnstile.proofs.asked.AskedHistory.replay.Goals as goal

pub loop-asked-preserved : goal.loop-asked-preserved
loop-asked-preserved g c =
    let history = c.args.self.now in
    let k = c.loop-asked.asked-index in
    let asked = c.asked-item.result in
    let same = c.deref-asked-items.ensures.value in
    let is : asked ≡ get_or history.asked.items k asked = c.asked-item.is ∙ ap (λ l. get_or l k asked) same in
    again_done g.T.Replays.replied g.T.Replays.after (g.T.Replays.state_of c.args.object.now) history.asked.items (recorded history.replies) k asked c.loop-asked.replies.items c.push.new.self.items (g.T.Replays.state_of c.loop-asked.object) (g.T.Replays.state_of c.apply.new.self) c.in_ok-apply.field-0
    history.counted (omega (arith, c.loop-asked-test.true, ap length same)) is c.loop-asked.invariant c.in_ok-push.ensures.items c.in_ok-apply.ensures.does.0 c.in_ok-apply.ensures.does.1

pub returns : goal.returns
returns g c =
    let history = c.args.self.now in
    let k = c.loop-asked.asked-index in
    let all : k ≡ length history.asked.items = omega (arith, c.loop-asked-test.false, c.loop-asked.auto.asked-index-end, ap length c.deref-asked-items.ensures.value) in
    let done = again_all g.T.Replays.replied g.T.Replays.after (g.T.Replays.state_of c.args.object.now) history.asked.items (recorded history.replies) k c.loop-asked.replies.items (g.T.Replays.state_of c.loop-asked.object) history.counted all c.loop-asked.invariant in
    record { replies = done.0; state = done.1 }
