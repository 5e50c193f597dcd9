use Rattle.stream_script.proofs.Prelude.{refl, append_assoc}
use Rattle.stream_script.proofs.Texts.{appended, writes_then}
use Rattle.stream_script.proofs.printer.text.push_running.Goals as goal

pub returns : goal.returns
returns c =
    let front = appended c.args.out.now.items _ _ _ _ _ c.in_ok-push_count.ensures c.in_ok-push_named.ensures refl in
    writes_then c.args.out.now.items _ _ _ _ _ _ front c.push_count-2.ensures (simp append_assoc)
