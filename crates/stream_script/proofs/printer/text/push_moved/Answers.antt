use Rattle.stream_script.proofs.Prelude.{append_assoc}
use Rattle.stream_script.proofs.Texts.{writes_then}
use Rattle.stream_script.proofs.printer.text.push_moved.Goals as goal

pub returns : goal.returns
returns c = writes_then c.args.out.now.items _ _ _ _ _ _ c.in_ok-push_count.ensures c.push_placed.ensures (simp append_assoc)
