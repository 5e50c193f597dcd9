use Rattle.pubsub_registry.proofs.Prelude.{◌≡◌, ◌∙◌, Some, filter, nat_eq, not, sym, ap, rules, values_of, option_copied_mut}
use Rattle.std.proofs.Common.{slice_get}
use Rattle.std.proofs.lemmas.Fn.{filter_same}
use Rattle.pubsub_registry.proofs.RowLemmas.{changes-row}
use Rattle.pubsub_registry.proofs.indexed.take_out.Goals as goal

pub returns : goal.returns
returns c =
    let rows = c.args.by_stream.now in
    let value : slice_get (values_of rows.entries) c.args.stream ≡ Some c.unwrap-row.result.now = sym c.get_index_mut.ensures.value ∙ ap option_copied_mut c.unwrap-row.ensures in
    changes-row rows c.args.stream c.unwrap-row.result.now c.get_index_mut.ensures.unique value (λ row. filter (λ n. not (nat_eq n c.args.number)) row) c.retain.new.self
    (filter_same _ _ _ (λ x b f' k. let apart : b ≡ not (nat_eq x c.args.number) = search rules in (apart, search rules)) _ _ c.retain.ensures.filtered)
