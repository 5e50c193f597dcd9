use Rattle.step_core.proofs.Prelude.{length, arith, past_from-within}
use Rattle.step_core.proofs.turns.handle.Goals as goal

pub token_at-requires : goal.token_at-requires
token_at-requires c =
    omega (arith, past_from-within 0 (length c.args.queue.now.events) c.args.run.now.positions (omega arith) c.requires.positions, c.last_position.ensures)
