use Rattle.step_core.proofs.Prelude.{after_begin, Begin}
use Rattle.stream_model.specs.Draining.{take_turn}
use Rattle.step_core.specs.DrainPhases.{meant}
use Rattle.step_core.specs.Replied.{reply_with}
use Rattle.step_core.proofs.DrainSteps.{ends-ask}
use Rattle.step_core.proofs.draining.take_turn.Goals as goal

pub returns : goal.returns
unfolding take_turn
returns c =
    ends-ask c.args.partition.now c.begin-outcome.new.self c.follow_begin.new.partition (meant c.follow_begin.result) (Begin c.args.grain.now 1) (reply_with c.begin-outcome.new.self.log c.begin-outcome.result) (after_begin c.args.grain.now)
    c.begin-outcome.ensures c.follow_begin.ensures
