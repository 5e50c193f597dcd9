use Rattle.subscription_table.proofs.Prelude.{tag_of, ◌≡◌, ◌∙◌, ℕ, List, map, get_or, sym, ap, get_or_from_slice_get, slice_get-map, option_map, StreamId}
use Rattle.std.proofs.lemmas.Simd.{map-map}
use Rattle.subscription_table.proofs.LeafLemmas.{Entry}
use Rattle.subscription_table.proofs.table.stream_tag.Goals as goal

pub returns-in-Some : goal.returns-in-Some
returns-in-Some c =
    let stream_in : Entry → StreamId = λ entry. entry.1.stream in
    let names = c.args.registry.now.names in
    let number = c.in-Some.number in
    let tags : c.args.tags.now ≡ map tag_of (map stream_in names) = c.requires ∙ sym (map-map tag_of stream_in names) in
    ap (λ (tags : List ℕ). get_or tags number 0) tags
    ∙ get_or_from_slice_get (map tag_of (map stream_in names)) number (tag_of c.args.stream.now) 0
    (slice_get-map tag_of (map stream_in names) number ∙ ap (option_map tag_of) c.in-Some.ensures.number)
