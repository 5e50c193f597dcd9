use Rattle.step_core.proofs.Prelude.{after_commit, Commit}
use Rattle.step_core.proofs.DrainSteps.{ends-unchanged}
use Rattle.step_core.proofs.draining.end_turn.Goals as goal

pub returns-in-Err : goal.returns-in-Err
returns-in-Err c =
    ends-unchanged c.args.partition.now c.commit.new.self (Commit c.args.grain.now c.args.activation c.args.turn c.args.note) after_commit c.in-Err.ensures.performs c.in-Err.ensures.memory
