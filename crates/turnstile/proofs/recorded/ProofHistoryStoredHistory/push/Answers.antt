use Rattle.turnstile.proofs.Prelude.{◌∙◌, sym}
use Rattle.turnstile.specs.Recorded.{recorded, answered}
use Rattle.turnstile.proofs.Answering.{answered-snoc}
use Rattle.turnstile.proofs.recorded.ProofHistoryStoredHistory.push.Goals as goal

pub returns : goal.returns
returns g c =
    let history = c.args.self.now in
    rw c.in-Some.is
    ((λ i. answered (c.add.ensures i) (c.add-2.ensures i))
    ∙ answered-snoc (recorded history.asked) (recorded history.replies) c.in-Some.asked c.args.reply.now (sym history.counted.0 ∙ history.counted.1))
