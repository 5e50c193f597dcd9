use Rattle.grain_table.proofs.Prelude.{PlainActivation, ◌≡◌, ◌∙◌, ap, sym, subst, ◌<◌, ◌≤◌, length, get_or, Some, true≢false, arith, ltb-false, ltb-true, same_grain, GrainId}
use Rattle.grain_table.specs.Changes.{no_grain}
use Rattle.grain_table.specs.Grains.{PlainGrains, number_of}
use Rattle.grain_table.proofs.TableLemmas.{distinct-ranked, number_of-found, number_of-read, read_entry}
use Rattle.grain_table.proofs.table.GrainTable.has_number.Goals as goal

pub returns-in-Some : goal.returns-in-Some
returns-in-Some c =
    let t = c.self.inside in
    let number = c.args.number in
    let grain = c.args.grain.now in
    let e : GrainId × PlainActivation = c.in-Some.field-0.now in
    let there : number < length t.entries.items = omega (arith, ltb-true number (length c.deref.result.now) (sym c.in-Some.ensures.lookup.0), ap length c.deref.ensures.value) in
    let read = read_entry t.entries.items number e no_grain there (c.in-Some.ensures.lookup.1 ∙ ap (λ (gs : PlainGrains). get_or gs number e) c.deref.ensures.value) in
    let same = ap (λ (x : GrainId × PlainActivation). same_grain grain x.0) read in (
      λ is. subst (λ (gs : PlainGrains). number_of gs grain ≡ Some number) c.self.view_is
          (sym (number_of-read t.entries.items grain number (distinct-ranked t.entries.items t.order.items c.self.invariant.ranked) there (same ∙ sym c.eq.ensures ∙ is))),
      λ is. c.eq.ensures ∙ sym same ∙ (number_of-found t.entries.items grain number (ap (λ (gs : PlainGrains). number_of gs grain) c.self.view_is ∙ is)).1,
    )

pub returns-in-None : goal.returns-in-None
returns-in-None c =
    let t = c.self.inside in
    let number = c.args.number in
    let past : length t.entries.items ≤ number = omega (arith, ltb-false number (length c.deref.result.now) (sym c.in-None.ensures.lookup.0), ap length c.deref.ensures.value) in (
      λ is. absurd (true≢false (sym is)),
      λ is. absurd (omega (arith, past, ap length c.self.view_is, (number_of-found c.args.self.now c.args.grain.now number is).0)),
    )
