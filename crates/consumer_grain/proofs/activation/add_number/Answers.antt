use Rattle.std.proofs.Common.{◌≡◌, true, false, Ok, Err, ◌∙◌, sym, ap, rules}
use Rattle.std.specs.List.{insert}
use Rattle.std.proofs.lemmas.List.Sorted.{searched}
use Rattle.consumer_grain.specs.Activations.{is_in, with_number}
use Rattle.consumer_grain.specs.Handled.{rises_from}
use Rattle.consumer_grain.proofs.NumberLemmas.{is_in-gap, rises-index, with_number-gap, with_number-there}
use Rattle.consumer_grain.proofs.activation.add_number.Goals as goal

pub returns-in_ok-insert-clause-numbers : goal.returns-in_ok-insert-clause-numbers
returns-in_ok-insert-clause-numbers c =
    let xs = c.deref.result.now in
    let rises : rises_from 0 xs ≡ true = ap (rises_from 0) c.deref.ensures.value ∙ c.requires in
    let gap = searched xs c.args.number (Err c.in-Err.place) c.in-Err.ensures.position (rises-index 0 xs rises) in
    let placed = ap (λ ys. insert ys c.in-Err.place c.args.number) (sym c.deref.ensures.value) in
    c.in_ok-insert.ensures.items ∙ (placed ∙ (with_number-gap c.args.number xs c.in-Err.place gap.0 gap.1 gap.2 ∙ ap (with_number c.args.number) c.deref.ensures.value))

pub returns-in_err-insert-clause-memory : goal.returns-in_err-insert-clause-memory
returns-in_err-insert-clause-memory c =
    let xs = c.deref.result.now in
    let rises : rises_from 0 xs ≡ true = ap (rises_from 0) c.deref.ensures.value ∙ c.requires in
    let gap = searched xs c.args.number (Err c.in-Err.place) c.in-Err.ensures.position (rises-index 0 xs rises) in
    let absent : is_in c.args.numbers.now.items c.args.number ≡ false = ap (λ ys. is_in ys c.args.number) (sym c.deref.ensures.value) ∙ is_in-gap c.args.number xs c.in-Err.place gap.1 gap.2 in
    search (rules, absent)

pub returns-in_default-clause-numbers : goal.returns-in_default-clause-numbers
returns-in_default-clause-numbers c =
    let xs = c.deref.result.now in
    let rises : rises_from 0 xs ≡ true = ap (rises_from 0) c.deref.ensures.value ∙ c.requires in
    let there = searched xs c.args.number (Ok c.in_default.field-0) c.in_default.ensures.position (rises-index 0 xs rises) in
    sym c.deref.ensures.value ∙ (with_number-there 0 c.args.number xs c.in_default.field-0 rises there.0 there.1 ∙ ap (with_number c.args.number) c.deref.ensures.value)
