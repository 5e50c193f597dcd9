use Rattle.std.proofs.Common.{◌≡◌, ◌<◌, ◌++◌, true, length, sym, ap, ◌∙◌, arith}
use Rattle.stream_ident.specs.Words.{past}
use Rattle.consumer_grain.specs.Handled.{rises_from}
use Rattle.consumer_grain.proofs.RisingLemmas.{past_from-any, rises_from-append}
use Rattle.stream_ident.proofs.WordLemmas.{past_from-append}
use Rattle.consumer_grain.proofs.handled.Handled.extend.Goals as goal

pub invariant_of-self-2 : goal.invariant_of-self-2
invariant_of-self-2 c =
    let handled = c.self.inside.positions.items in
    let positions = c.args.positions.now in
    let some : 0 < length positions = omega (arith, ap length c.as_slice.ensures.values) in
    let goes_on : rises_from (past handled) positions ≡ true = ap (λ xs. rises_from (past xs) positions) c.self.view_is ∙ c.requires.rising in
    let added = c.in_ok-extend_from_slice.ensures.items ∙ ap (λ xs. handled ++ xs) c.as_slice.ensures.values in
    rw added (record {
      rising = rises_from-append 0 handled positions c.self.invariant.rising goes_on;
      last = c.past_of-self-inside.ensures ∙ (past_from-any 0 (past handled) positions some ∙ sym (past_from-append 0 handled positions));
    })
