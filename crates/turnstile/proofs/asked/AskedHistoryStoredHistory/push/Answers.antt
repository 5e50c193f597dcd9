use Rattle.turnstile.proofs.Prelude.{◌∙◌, sym}
use Rattle.turnstile.specs.Recorded.{recorded, answered}
use Rattle.turnstile.proofs.Answering.{answered-snoc}
use Rattle.turnstile.proofs.asked.AskedHistoryStoredHistory.push.Goals as goal

pub returns : goal.returns
returns g c =
    let history = c.args.self.now in
    rw (sym c.take.ensures.value ∙ c.unwrap.ensures)
    ((λ i. answered (c.push_reserved.ensures.items i) (c.add.ensures i))
    ∙ answered-snoc history.asked.items (recorded history.replies) c.unwrap.result c.args.reply.now history.counted)
