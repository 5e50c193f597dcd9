use Rattle.grain_table.proofs.Prelude.{entry_at, ◌≡◌, ◌∙◌, ap, sym, ℕ, ◌<◌, ◌≤◌, List, length, get_or, Some, arith, ltb-false, ltb-true, option_copied, GrainId}
use Rattle.grain_table.specs.Changes.{no_grain}
use Rattle.grain_table.specs.Grains.{PlainGrains, ready_after}
use Rattle.grain_table.specs.Table.{name_of}
use Rattle.grain_table.proofs.TableLemmas.{grain-at, next-first, next-none, next-past}
use Rattle.grain_table.proofs.table.GrainTable.ready_after.Goals as goal
use Rattle.grain_table.proofs.table.GrainTable.ready_after.Goals.{then-past-ready, else-past-ready}

pub returns-in_err-number : goal.returns-in_err-number
returns-in_err-number c =
    let t = c.self.inside in
    let grains = t.entries.items in
    let numbers = t.ready.items in
    let after = option_copied c.args.after in
    let place = c.if-past-ready.place in
    let high : length c.as_slice-ready.result.now ≤ place = ltb-false place (length c.as_slice-ready.result.now) (sym c.in_err-number.ensures.lookup.0) in
    let none : length numbers ≡ 0 = elim c.if-past-ready.branch [
      | then-past-ready w ↦ absurd (omega (arith, high, w.place-is, w.if-past-ready.true))
      | else-past-ready w ↦ omega (arith, high, w.place-is, ap length c.as_slice-ready.ensures.value)
    ] in
    c.from_residual.ensures ∙ next-none grains numbers after c.self.invariant.kept.are_ready none ∙ ap (λ (gs : PlainGrains). ready_after gs after) c.self.view_is

pub returns : goal.returns
returns c =
    let t = c.self.inside in
    let grains = t.entries.items in
    let numbers = t.ready.items in
    let after = option_copied c.args.after in
    let past = c.first_past-past.result in
    let place = c.if-past-ready.place in
    let number = c.in_ok-number.field-0.now in
    let first = rw (c.deref.ensures.value, c.as_slice-ready.ensures.value) at c.first_past-past.ensures in
    let within : place < length numbers = omega (arith, ltb-true place (length c.as_slice-ready.result.now) (sym c.in_ok-number.ensures.lookup.0), ap length c.as_slice-ready.ensures.value) in
    let next : Some (name_of (entry_at grains numbers no_grain place)) ≡ ready_after grains after = elim c.if-past-ready.branch [
      | then-past-ready w ↦
          next-past grains numbers after past place c.self.invariant.kept.are_ready first (omega (arith, w.if-past-ready.true, ap length c.as_slice-ready.ensures.value)) w.place-is
      | else-past-ready w ↦
          next-first grains numbers after past place c.self.invariant.kept.are_ready first (omega (arith, w.if-past-ready.false, ap length c.as_slice-ready.ensures.value)) w.place-is within
    ] in
    ap (λ (g : GrainId). Some g) (grain-at grains numbers place number c.index.result.now c.self.invariant.kept.are_ready within (c.in_ok-number.ensures.lookup.1 ∙ ap (λ (ns : List ℕ). get_or ns place number) c.as_slice-ready.ensures.value) c.index.ensures)
    ∙ next ∙ ap (λ (gs : PlainGrains). ready_after gs after) c.self.view_is
