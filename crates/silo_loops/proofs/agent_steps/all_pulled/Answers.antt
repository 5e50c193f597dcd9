use Rattle.silo_loops.proofs.Prelude.{◌≡◌, ◌<◌, ℕ, Some, ◌∙◌, arith, length, rules, common_steps, at_read, get_or_from_slice_get, slice_get, slice_index_or}
use borrow.Author.Count.{below_more}
use Rattle.silo_loops.specs.Lines.{HasPulled, LineView}
use Rattle.silo_loops.proofs.agent_steps.all_pulled.Goals as goal

pub loop-at-preserved : goal.loop-at-preserved
loop-at-preserved g c =
    let within : c.loop-at.at < length c.args.lines.now.items = first_of (omega (arith, c.loop-at-test.true, c.len-at-end.ensures), search rules, grind (arith, common_steps)) in
    let lines = c.args.lines.now.items in
    let held = c.args.held.now.items in
    below_more (λ k. (line : LineView) (generation : ℕ) → slice_get held k ≡ Some (Some generation) → HasPulled (slice_index_or lines k line)) c.loop-at.at c.loop-at.invariant
    (λ line generation holds.
    at_read lines (λ m. HasPulled m) c.loop-at.at c.index.result.now within c.index.ensures
    (c.is_pulled.ensures c.if-not-is_pulled.false generation (c.index-in-loop-at.ensures ∙ get_or_from_slice_get held c.loop-at.at (Some generation) c.index-in-loop-at.result.now holds)) line)
