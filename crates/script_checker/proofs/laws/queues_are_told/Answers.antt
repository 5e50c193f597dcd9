use Rattle.script_checker.specs.Summaries.{empty}
use Rattle.script_checker.proofs.QueueLemmas.{queues_all}
use Rattle.script_checker.proofs.laws.queues_are_told.Goals as goal

pub returns : goal.returns
returns c queues commands stream = queues_all commands (empty queues) stream
