use Rattle.script_runs.proofs.ToldReplies.{replies-told}
use Rattle.script_runs.proofs.reader.laws.replies_are_told.Goals as goal

pub returns : goal.returns
returns c = replies-told
