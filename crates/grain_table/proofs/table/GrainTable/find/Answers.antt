use Rattle.grain_table.proofs.Prelude.{◌≡◌, ◌∙◌, ap, sym, refl, ℕ, ◌-◌, ◌<◌, length, Bool, true, false, true≢false, IsTrue, ◌↔◌, Option, Some, None, slice_index, arith, get_or_default}
use Rattle.std.specs.Bool.{then_some}
use Rattle.grain_table.specs.Grains.{PlainGrains, number_of}
use Rattle.grain_table.proofs.TableLemmas.{last-named, number_of-found}
use Rattle.grain_table.proofs.table.GrainTable.find.Goals as goal

none-where : (found : Option ℕ) → ((number : ℕ) → found ≡ Some number → ⊥) → None ≡ found
none-where None none = refl
none-where (Some number) none = absurd (none number refl)

-- one that is tried is the only one that there can be
tried : (found : Option ℕ) (is : Bool) (number : ℕ) → IsTrue is ↔ (found ≡ Some number) → ((other : ℕ) → found ≡ Some other → number ≡ other) → then_some is number ≡ found
tried found true number told only = sym (told.0 refl)
tried found false number told only = none-where found (λ other there. true≢false (sym (told.1 (there ∙ ap {B = Option ℕ} Some (sym (only other there))))))

pub returns-then-has_number-clause-within : goal.returns-then-has_number-clause-within
returns-then-has_number-clause-within c = (number_of-found c.args.self.now c.args.grain.now c.hint_for-hint.result (c.has_number.ensures.0 c.if-has_number.true)).0

pub returns-then-past-eq0-clause-number : goal.returns-then-past-eq0-clause-number
returns-then-past-eq0-clause-number c =
    let t = c.self.inside in
    let grain = c.args.grain.now in
    let past = c.first_past-past.result in
    let first = rw (c.deref-2.ensures.value, c.deref-3.ensures.value) at c.first_past-past.ensures in
    none-where (number_of c.args.self.now grain)
    (λ number there. omega (arith, c.if-past-eq0.true, (last-named t.entries.items t.order.items grain past number c.self.invariant.ranked first (ap (λ (gs : PlainGrains). number_of gs grain) c.self.view_is ∙ there)).0))

pub returns-clause-number : goal.returns-clause-number
returns-clause-number c =
    let t = c.self.inside in
    let grain = c.args.grain.now in
    let past = c.first_past-past.result in
    let number = c.index-number.result.now in
    let first = rw (c.deref-2.ensures.value, c.deref-3.ensures.value) at c.first_past-past.ensures in
    let below : past - 1 < length t.order.items = omega (arith, first.within, c.if-past-eq0.false) in
    let at : number ≡ slice_index t.order.items (past - 1) = c.index-number.ensures ∙ get_or_default t.order.items (past - 1) number 0 below in
    c.then_some.ensures
    ∙ tried (number_of c.args.self.now grain) c.has_number-2.result number c.has_number-2.ensures
    (λ other there. at ∙ (last-named t.entries.items t.order.items grain past other c.self.invariant.ranked first (ap (λ (gs : PlainGrains). number_of gs grain) c.self.view_is ∙ there)).1)
