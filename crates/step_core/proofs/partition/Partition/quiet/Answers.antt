use Rattle.step_core.proofs.Prelude.{◌∙◌, ap, sym, pending_in}
use Rattle.step_core.proofs.FinishingLemmas.{owes-nothing}
use Rattle.step_core.proofs.partition.Partition.quiet.Goals as goal

pub returns-in-None-clause-owes : goal.returns-in-None-clause-owes
returns-in-None-clause-owes c = λ _. owes-nothing c.args.self.now (ap pending_in (sym c.self.view_is) ∙ (sym c.pending.ensures ∙ c.in-None.is))
