use Rattle.stream_script.proofs.Prelude.{get_or, ◌∷◌, [], refl, ◌≡◌, ◌++◌, length, ap, sym, length-map, decimal, flat_map, events_at, no_event}
use Rattle.stream_script.specs.Report.{binding_text, handled_line}
use Rattle.stream_script.proofs.Texts.{appended, writes_then}
use Rattle.stream_script.proofs.printer.report.push_open.Goals as goal

pub returns : goal.returns
returns c =
    let log = c.args.partition.now.log in
    let events = events_at log c.args.positions.now in
    let same : length events ≡ length c.args.positions.now = length-map c.args.positions.now (λ position. get_or log position no_event) in
    let count = appended c.args.out.now.items _ _ _ _ _ c.in_ok-push_binding.ensures c.in_ok-push_count.ensures refl in
    let line = appended c.args.out.now.items _ _ _ _ _ count c.in_ok-push_text.ensures refl in
    writes_then c.args.out.now.items _ _ _ _ _ _ line c.push_handled_lines.ensures
    (ap (λ n. binding_text c.args.queue c.args.sub.now ++ 32 ∷ decimal n ++ 10 ∷ [] ++ flat_map handled_line events) (sym same))
