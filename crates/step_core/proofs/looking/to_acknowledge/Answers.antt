use Rattle.step_core.proofs.Prelude.{length, arith, past_from-within}
use Rattle.step_core.proofs.looking.to_acknowledge.Goals as goal

pub token_at-requires : goal.token_at-requires
token_at-requires c = omega (arith, past_from-within 0 (length c.args.queue.now.events) c.args.state.now.handled (omega arith) c.requires, c.past.ensures)
