use Rattle.step_core.proofs.Prelude.{◌≡◌, ◌∙◌, ℕ, None, Option, Some, ap, sym, subst, Bor, option_copied, IfNone, IfSome, SubName, due_after, leaves_of, PlainTable, name_at, no_entry}
use Rattle.subscription_table.specs.Table.{number_of}
use Rattle.step_core.proofs.NamesOps.{name-of-place}
use Rattle.step_core.proofs.looking.due_number.Goals as goal

-- the name with the number that was found is the given one
is-given : (t : PlainTable) (after : Option (Bor SubName)) (name : Bor SubName) (number : ℕ) → after ≡ Some name → number_of t name.now ≡ Some number → Some (name_at t number) ≡ option_copied after
is-given t after name number given found =
    sym (ap option_copied given ∙ ap {B = Option SubName} Some (name-of-place name.now t.registry.names number no_entry found))

pub returns-clause-none : goal.returns-clause-none
returns-clause-none c =
    let t = c.args.subs.now in
    subst (λ (after : Option SubName). IfNone c.due_past.result (due_after c.args.high after (leaves_of t.registry.names t.states) ≡ None))
    (is-given t c.args.after c.in-Some.name c.in-Some-find.number c.in-Some.is (sym c.find.ensures.number ∙ c.in-Some-find.is)) c.due_past.ensures.none

pub returns-clause-some : goal.returns-clause-some
returns-clause-some c =
    let t = c.args.subs.now in
    subst (λ (after : Option SubName). IfSome c.due_past.result (λ number. due_after c.args.high after (leaves_of t.registry.names t.states) ≡ Some (name_at t number)))
    (is-given t c.args.after c.in-Some.name c.in-Some-find.number c.in-Some.is (sym c.find.ensures.number ∙ c.in-Some-find.is)) c.due_past.ensures.some
