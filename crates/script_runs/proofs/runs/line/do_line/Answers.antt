use Rattle.script_runs.proofs.Prelude.{length, refl, subst, Command}
use Rattle.script_runs.specs.Scripts.{IsRunCommand}
use Rattle.script_runs.proofs.Doing.{down-ends, each-ends, ends-so, quiet-ends, step-ends, unquiet-ends, up-ends}
use Rattle.script_runs.proofs.runs.line.do_line.Goals as goal

pub returns-in_ok-wait_until_quiet-in-Drain : goal.returns-in_ok-wait_until_quiet-in-Drain
returns-in_ok-wait_until_quiet-in-Drain g c =
    let waits = c.wait_until_quiet.ensures in
    ends-so c.in-Drain.is refl (quiet-ends c.args.cluster.now c.looks.result c.args.caller.now c.wait_until_quiet.new.caller c.looks.ensures waits.on waits.turnstiles waits.told c.in_ok-wait_until_quiet-in-Drain.ensures.quiet)

pub returns-in_err-wait_until_quiet-in-Drain : goal.returns-in_err-wait_until_quiet-in-Drain
returns-in_err-wait_until_quiet-in-Drain g c =
    let waits = c.wait_until_quiet.ensures in
    ends-so c.in-Drain.is refl
    (unquiet-ends c.args.cluster.now c.looks.result c.args.caller.now c.wait_until_quiet.new.caller c.from_residual.result c.in_err-wait_until_quiet-in-Drain.field-0.0 c.from_residual.ensures.1 c.looks.ensures waits.on waits.turnstiles waits.told
    c.in_err-wait_until_quiet-in-Drain.ensures.unquiet)

pub returns-in-Step : goal.returns-in-Step
returns-in-Step g c =
    let produces = (subst (λ (said : Command). IsRunCommand (length c.args.caller.now) said) c.in-Step.is c.requires.command).1 in
    let asks = c.ask.ensures in
    ends-so c.in-Step.is c.unless_limit.ensures (step-ends c.args.cluster.now c.args.caller.now c.ask.new.caller c.in-Step.queue c.in-Step.op c.ask.result produces asks.on asks.turnstiles asks.told asks.asks)

pub returns-in-Each : goal.returns-in-Each
returns-in-Each g c =
    let produces = subst (λ (said : Command). IsRunCommand (length c.args.caller.now) said) c.in-Each.is c.requires.command in
    let asks = c.ask_each.ensures in
    ends-so c.in-Each.is c.unless_limit-in-Each.ensures (each-ends c.args.cluster.now c.args.caller.now c.ask_each.new.caller c.in-Each.each c.ask_each.result produces asks.on asks.turnstiles asks.told asks.once asks.ends)

pub returns-in-Up : goal.returns-in-Up
returns-in-Up g c = ends-so c.in-Up.is c.came_up.ensures (up-ends c.args.cluster.now c.silo_up.new.self c.args.caller.now c.in-Up.silo c.silo_up.result c.silo_up.ensures)

pub returns-in-Down : goal.returns-in-Down
returns-in-Down g c = ends-so c.in-Down.is c.went_down.ensures (down-ends c.args.cluster.now c.silo_down.new.self c.args.caller.now c.in-Down.silo c.silo_down.result c.silo_down.ensures)
