use Rattle.stream_laws.proofs.KeptStep.{kept-step}
use Rattle.stream_laws.proofs.LawsOfTokens.{tokens_rise-from}
use Rattle.stream_laws.proofs.tokens_rise.Goals as goal

pub returns : goal.returns
returns c = tokens_rise-from kept-step
