use Rattle.script_runs.proofs.Asked.{once-on, once-tells}
use Rattle.script_runs.proofs.producer.asking.ask.Goals as goal

pub returns-clause-told : goal.returns-clause-told
returns-clause-told g c = once-tells c.args.caller.now c.args.queue c.args.op c.ask_once.result c.ask_once.new.caller c.requires.producer c.ask_once.ensures.asks

pub returns-clause-on : goal.returns-clause-on
returns-clause-on g c = once-on c.args.caller.now c.args.queue c.args.op c.ask_once.result c.ask_once.new.caller c.requires.producer c.ask_once.ensures.asks
