use Rattle.stream_script.proofs.Prelude.{refl, codes, decimal, token_text}
use Rattle.stream_script.proofs.Texts.{appended, writes_then, three_texts}
use Rattle.stream_script.proofs.printer.text.push_pulled.Goals as goal

pub returns : goal.returns
returns c =
    let front = appended c.args.out.now.items _ _ _ _ _ c.in_ok-push_count.ensures c.in_ok-push_placed.ensures refl in
    let whole = three_texts (codes "pulled ") (decimal c.args.count) (codes " low ") (token_text c.args.low) (codes " high ") (token_text c.args.high) in
    writes_then c.args.out.now.items _ _ _ _ _ _ front c.push_placed-2.ensures whole
