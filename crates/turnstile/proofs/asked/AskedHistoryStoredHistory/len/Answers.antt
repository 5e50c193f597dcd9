use Rattle.turnstile.proofs.Prelude.{◌≡◌, ◌∙◌, rules, length, sym}
use Rattle.turnstile.specs.Recorded.{recorded}
use Rattle.turnstile.proofs.Answering.{length-answered}
use Rattle.turnstile.proofs.asked.AskedHistoryStoredHistory.len.Goals as goal

pub returns : goal.returns
returns g c =
    let history = c.args.self.now in
    let len : c.len.result ≡ length history.asked.items = search rules in
    len ∙ sym (length-answered history.asked.items (recorded history.replies) history.counted)
