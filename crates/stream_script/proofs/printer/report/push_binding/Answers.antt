use Rattle.stream_script.proofs.Prelude.{refl}
use Rattle.stream_script.proofs.Texts.{appended, writes_then}
use Rattle.stream_script.proofs.printer.report.push_binding.Goals as goal

pub returns : goal.returns
returns c =
    let stream = appended c.args.out.now.items _ _ _ _ _ c.in_ok-push_sub_name.ensures c.in_ok-push_pair.ensures refl in
    let grain = appended c.args.out.now.items _ _ _ _ _ stream c.in_ok-push_grain.ensures refl in
    writes_then c.args.out.now.items _ _ _ _ _ _ grain c.push_placed.ensures refl
