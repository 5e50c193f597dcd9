use Rattle.std.proofs.Common.{ap, ◌∙◌, arith}
use Rattle.consumer_grain.specs.Handled.{rises_from}
use Rattle.consumer_grain.proofs.FrontLemmas.{rises_from-front_of}
use Rattle.consumer_grain.proofs.RisingLemmas.{rises_from-lower}
use Rattle.consumer_grain.proofs.activation.Activation.begin_front.Goals as goal

pub returns-clause-rising : goal.returns-clause-rising
returns-clause-rising c =
    let front = c.in-Some.front.now in
    let rises = rises_from-front_of c.args.most front.sub front.position c.as_slice-2.result.now in
    rises_from-lower c.args.past front.position c.turn_positions-positions.result (omega arith)
    (ap (rises_from front.position) c.turn_positions-positions.ensures ∙ rises)
