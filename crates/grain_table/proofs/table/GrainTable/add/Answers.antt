use Rattle.grain_table.proofs.Prelude.{PlainActivation, ◌≡◌, ◌∙◌, ap, ℕ, ◌+◌, ◌≤◌, ◌^◌, ◌++◌, ◌∷◌, [], List, is_ok, insert, if◌then◌else◌, length, vec_capacity, arith, length_push, GrainId}
use Rattle.grain_table.specs.Grains.{PlainGrains, number_of}
use Rattle.grain_table.proofs.ChangeLemmas.{added-but}
use Rattle.grain_table.proofs.TableLemmas.{distinct-ranked, ranked-more}
use Rattle.grain_table.proofs.table.GrainTable.add.Goals as goal

pub settle-self-inside-requires : goal.settle-self-inside-requires
settle-self-inside-requires c =
    let t = c.self.inside in
    let grains = t.entries.items in
    let e : GrainId × PlainActivation = (c.args.grain, c.in_ok-activation.activation) in
    let past = c.first_past-past.result in
    let number : c.len-number.result ≡ length grains = omega arith in
    let room = vec_capacity c.reserve.new.self in
    let more : c.push_reserved.new.self.items ≡ grains ++ e ∷ [] = c.push_reserved.ensures.items ∙ ap (λ (gs : PlainGrains). gs ++ e ∷ []) c.in_ok-reserve-3.ensures.items in
    let first = rw (c.deref-2.ensures.value ∙ c.in_ok-reserve-3.ensures.items, c.deref-3.ensures.value ∙ c.in_ok-reserve-2.ensures.items) at c.first_past-past.ensures in
    let ranked = ranked-more grains t.order.items past e c.self.invariant.ranked first (ap (λ (gs : PlainGrains). number_of gs e.0) c.self.view_is ∙ c.requires) in
    let fits : length grains + 1 ≤ room = omega (arith, c.len-number.ensures, c.len.ensures, c.min.ensures, c.in_ok-reserve.ensures.len, c.in_ok-reserve.ensures.ok) in
    let few : length grains + 1 ≤ 2 ^ 63 = omega (arith, ap length more, length_push grains e, c.push_reserved.new.self.small) in
    rw (c.deref-4.ensures.value, more, c.in_ok-reserve.ensures.items, number)
    (added-but grains t.ready.items (vec_capacity t.ready) t.running room e c.self.invariant.kept (distinct-ranked (grains ++ e ∷ []) _ ranked) fits few)

pub invariant_of-self-2 : goal.invariant_of-self-2
invariant_of-self-2 c =
    let t = c.self.inside in
    let grains = t.entries.items in
    let e : GrainId × PlainActivation = (c.args.grain, c.in_ok-activation.activation) in
    let past = c.first_past-past.result in
    let number : c.len-number.result ≡ length grains = omega arith in
    let more : c.push_reserved.new.self.items ≡ grains ++ e ∷ [] = c.push_reserved.ensures.items ∙ ap (λ (gs : PlainGrains). gs ++ e ∷ []) c.in_ok-reserve-3.ensures.items in
    let first = rw (c.deref-2.ensures.value ∙ c.in_ok-reserve-3.ensures.items, c.deref-3.ensures.value ∙ c.in_ok-reserve-2.ensures.items) at c.first_past-past.ensures in
    let ranked = ranked-more grains t.order.items past e c.self.invariant.ranked first (ap (λ (gs : PlainGrains). number_of gs e.0) c.self.view_is ∙ c.requires) in
    let put : c.insert.new.self.items ≡ insert t.order.items past (length grains) =
    c.insert.ensures.items ∙ ap (λ r. if is_ok r then insert c.reserve-2.new.self.items past c.len-number.result else c.reserve-2.new.self.items) c.unwrap.ensures
    ∙ ap (λ (ns : List ℕ). insert ns past c.len-number.result) c.in_ok-reserve-2.ensures.items ∙ ap (insert t.order.items past) number in
    record {
      ranked = rw (more, put) ranked;
      kept = rw c.deref-4.ensures.value at c.settle-self-inside.ensures;
    }
