use Rattle.stream_ident.proofs.SplitLemmas.{split_once-none, split_once-some}
use Rattle.stream_ident.proofs.text.split_once.Goals as goal

pub returns-in_err-at : goal.returns-in_err-at
returns-in_err-at c = rw c.from_residual.ensures (split_once-none c.args.separator c.args.bytes.now c.in_err-at.ensures.exact)

pub returns : goal.returns
returns c = split_once-some c.args.separator c.args.bytes.now c.in_ok-at.at c.in_ok-at.ensures.exact
