use Rattle.pubsub_registry.proofs.Prelude.{insert_entry-new, ◌≡◌, ◌∙◌, [], ◌∷◌, ◌++◌, Bool, None, Some, get_or, insert, length, take, sym, ap, subst, arith, slice_get-get_or, keys_of, lookup, values_of, option_copied_mut}
use Rattle.std.proofs.Common.{slice_get}
use Rattle.std.proofs.Math.Seq.{take-append_seam}
use Rattle.pubsub_registry.specs.Registry.{no_entry}
use Rattle.pubsub_registry.specs.declared.packed.Key.{Key}
use Rattle.pubsub_registry.proofs.PackedLemmas.{key_equal, key_equal-is}
use Rattle.pubsub_registry.proofs.RowLemmas.{changes-row, keeps-rows, row-at}
use Rattle.pubsub_registry.proofs.indexed.put_row.Goals as goal

pub insert-requires-2 : goal.insert-requires-2
insert-requires-2 c =
    let streams = c.args.by_stream.now in
    let value : slice_get (values_of streams.entries) c.args.row.stream ≡ Some c.unwrap-numbers.result.now = sym c.get_index_mut.ensures.value ∙ ap option_copied_mut c.unwrap-numbers.ensures in
    let key = get_or (keys_of streams.entries) c.args.row.stream no_entry.1.stream in
    let there = slice_get-get_or (keys_of streams.entries) c.args.row.stream no_entry.1.stream c.requires.there in
    let numbers = row-at streams c.args.row.stream c.unwrap-numbers.result.now c.get_index_mut.ensures.unique value key there in
    omega (arith, c.requires.at key there, ap length numbers)

pub returns-in-Err-clause-err : goal.returns-in-Err-clause-err
returns-in-Err-clause-err c =
    let streams = c.args.by_stream.now in
    let rows = c.args.rows.now.entries in
    let value : slice_get (values_of streams.entries) c.args.row.stream ≡ Some c.unwrap-numbers.result.now = sym c.get_index_mut.ensures.value ∙ ap option_copied_mut c.unwrap-numbers.ensures in
    let there = slice_get-get_or (keys_of streams.entries) c.args.row.stream no_entry.1.stream c.requires.there in
    let added : c.insert.new.self.entries ≡ rows ++ (c.args.key, c.args.row) ∷ [] =
    c.in_ok-insert.ensures.entries
    ∙ insert_entry-new key_equal c.args.rows.now c.args.key c.args.row (subst (λ (same : Key → Key → Bool). lookup (same c.args.key) rows ≡ None) (sym key_equal-is) c.requires.new) in (
      c.truncate.ensures.entries ∙ (λ i. take (c.len-number.ensures.len i) (added i)) ∙ take-append_seam rows ((c.args.key, c.args.row) ∷ []),
      keeps-rows streams c.args.row.stream c.unwrap-numbers.result.now c.get_index_mut.ensures.unique value c.insert-2.new.self c.in-Err.ensures.items _ there,
    )

pub returns-clause-ok : goal.returns-clause-ok
returns-clause-ok c =
    let streams = c.args.by_stream.now in
    let rows = c.args.rows.now.entries in
    let value : slice_get (values_of streams.entries) c.args.row.stream ≡ Some c.unwrap-numbers.result.now = sym c.get_index_mut.ensures.value ∙ ap option_copied_mut c.unwrap-numbers.ensures in (
      c.in_ok-insert.ensures.entries
          ∙ insert_entry-new key_equal c.args.rows.now c.args.key c.args.row (subst (λ (same : Key → Key → Bool). lookup (same c.args.key) rows ≡ None) (sym key_equal-is) c.requires.new),
      changes-row streams c.args.row.stream c.unwrap-numbers.result.now c.get_index_mut.ensures.unique value (λ numbers. insert numbers c.args.at (length rows)) c.insert-2.new.self
          (c.in_default.ensures.items ∙ ap (insert c.unwrap-numbers.result.now.items c.args.at) c.len-number.ensures.len),
    )
