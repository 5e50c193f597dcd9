use Rattle.stream_model.proofs.Prelude.{◌∙◌}
use Rattle.stream_model.proofs.Retyping.{with-same}
use Rattle.stream_model.proofs.reply.Reply+Row+T.copy.Goals as goal

-- src/reply.rt:242:5
pub returns-in_default : goal.returns-in_default
returns-in_default g c = c.no_turn.ensures (λ events. events) ∙ with-same c.args.self.now
