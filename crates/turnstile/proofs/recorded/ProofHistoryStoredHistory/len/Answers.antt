use Rattle.turnstile.proofs.Prelude.{◌∙◌, sym}
use Rattle.turnstile.specs.Recorded.{recorded}
use Rattle.turnstile.proofs.Answering.{length-answered}
use Rattle.turnstile.proofs.recorded.ProofHistoryStoredHistory.len.Goals as goal

pub returns : goal.returns
returns g c =
    let history = c.args.self.now in
    history.counted.0 ∙ sym (length-answered (recorded history.asked) (recorded history.replies) (sym history.counted.0 ∙ history.counted.1))
