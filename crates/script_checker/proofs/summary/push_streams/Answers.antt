use Rattle.script_checker.proofs.Prelude.{◌≡◌, ℕ, ◌+◌, List, ◌++◌, Some, take, sym, ◌∙◌, ap, flat_map_more, take_more, string_bytes, StreamId}
use Rattle.std.specs.List.{slice_get}
use Rattle.std.specs.Map.Iter.{deref_pair}
use Rattle.std.specs.Option.{option_map}
use Rattle.std.proofs.lemmas.Option.{get_or_from_slice_get, slice_get_within}
use Rattle.script_checker.specs.Summaries.{stream_line, stream_lines}
use Rattle.script_checker.proofs.summary.push_streams.Goals as goal

-- one stream more
streams_more : (old mid new : List ℕ) (streams : List (StreamId × ℕ)) (n : ℕ) (entry : StreamId × ℕ) → slice_get streams n ≡ Some entry
    → mid ≡ old ++ stream_lines (take n streams) → new ≡ mid ++ stream_line entry → new ≡ old ++ stream_lines (take (n + 1) streams)
streams_more old mid new streams n entry at so_far more =
    let longer = take_more streams n entry (slice_get_within streams n entry at) in
    rw (more, so_far, longer, get_or_from_slice_get streams n entry entry at) (flat_map_more stream_line old (take n streams) entry)

pub loop-number-preserved : goal.loop-number-preserved
loop-number-preserved c =
    let at = sym c.get_index.ensures.entry ∙ ap (option_map deref_pair) c.unwrap.ensures in
    streams_more (string_bytes c.args.text.now) (string_bytes c.loop-number.text) (string_bytes c.push_stream.new.text) c.args.streams.now.entries c.loop-number.number _
    at c.loop-number.invariant c.in_ok-push_stream.ensures
