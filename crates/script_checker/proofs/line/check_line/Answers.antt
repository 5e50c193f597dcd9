use Rattle.script_checker.proofs.Prelude.{Ok, ap, sym, ◌∙◌}
use Rattle.script_checker.proofs.VerbLemmas.{begins_with}
use Rattle.script_checker.proofs.PlaceLemmas.{fault_not_spaces}
use Rattle.script_checker.proofs.line.check_line.Goals as goal

pub placed-requires : goal.placed-requires
placed-requires c =
    fault_not_spaces c.args.queues c.args.line c.args.mode c.args.bytes.now c.in-Fault.fault (sym c.in_ok-command.ensures.exact ∙ c.in-Fault.is)

pub returns-in-Command-clause-verb : goal.returns-in-Command-clause-verb
returns-in-Command-clause-verb c =
    begins_with c.args.mode c.args.queues c.args.bytes.now c.in-Command.command
    (c.parse_line.ensures.found c.in-Command.command (c.in_ok-command.was ∙ ap Ok c.in-Command.is))
