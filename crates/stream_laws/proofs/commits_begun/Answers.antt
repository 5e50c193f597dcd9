use Rattle.stream_laws.proofs.KeptStep.{kept-step}
use Rattle.stream_laws.proofs.LawsOfTurns.{commits_begun-from}
use Rattle.stream_laws.proofs.commits_begun.Goals as goal

pub returns : goal.returns
returns c = commits_begun-from kept-step
