use Rattle.subscription_table.proofs.Prelude.{new_state, SubState, tag_of, ◌≡◌, ◌<◌, ◌∙◌, ◌++◌, ◌∷◌, [], ℕ, get_or, length, ap, arith, slice_get-get_or, StreamId, Token}
use Rattle.subscription_table.specs.Table.{no_entry}
use Rattle.subscription_table.proofs.LeafLemmas.{Entry}
use Rattle.subscription_table.proofs.RowLemmas.{row-more}
use Rattle.subscription_table.proofs.table.add_rows.Goals as goal

pub loop-number-preserved : goal.loop-number-preserved
loop-number-preserved c =
    let names = c.args.registry.now.names in
    let number = c.loop-number.number in
    let entry : Entry = get_or names number no_entry in
    let within : number < length names = omega (arith, c.loop-number-test.true, c.len-number-end.ensures.len) in
    let there = slice_get-get_or names number no_entry within in
    let before = c.loop-number.invariant in
    let state = c.push_reserved.ensures in
    let tag = c.push_reserved-in-loop-number.ensures in
    let stated : c.push_reserved.new.self.items ≡ c.loop-number.states.items ++ new_state entry.1.start c.args.position ∷ [] =
    state.items ∙ ap (λ (s : SubState). c.loop-number.states.items ++ s ∷ []) (c.new.ensures ∙ ap (λ (t : Token). new_state t c.args.position) c.start.ensures) in
    let tagged : c.push_reserved-in-loop-number.new.self.items ≡ c.loop-number.tags.items ++ tag_of entry.1.stream ∷ [] =
    tag.items ∙ ap (λ (n : ℕ). c.loop-number.tags.items ++ n ∷ []) (c.event_tag.ensures ∙ ap (λ (s : StreamId). tag_of s) c.stream.ensures) in
    record {
      states = row-more (λ (entry : Entry). new_state entry.1.start c.args.position) c.reserve.new.self.items c.loop-number.states.items c.push_reserved.new.self.items
          names c.len-len.result number entry c.loop-number.auto.number there before.states stated;
      tags = row-more (λ (entry : Entry). tag_of entry.1.stream) c.reserve-2.new.self.items c.loop-number.tags.items c.push_reserved-in-loop-number.new.self.items
          names c.len-len.result number entry c.loop-number.auto.number there before.tags tagged;
      states_room = omega (arith, state.capacity, before.states_room);
      tags_room = omega (arith, tag.capacity, before.tags_room);
    }
