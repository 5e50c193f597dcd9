use Rattle.step_core.proofs.Prelude.{PlainActivation, activation_at, no_grain, ◌∙◌, ap, sym, subst, ℕ, List, refl, deactivate-idle, new_grain, AreRewound}
use Rattle.step_core.specs.PlainOf.{plain_of}
use Rattle.step_core.proofs.GrainOps.{grain-found, grain-new}
use Rattle.step_core.proofs.LeaveOps.{deactivate-assembled, deactivate-told}
use Rattle.step_core.proofs.turns.deactivate.Goals as goal

pub returns-in_default-clause-performs : goal.returns-in_default-clause-performs
returns-in_default-clause-performs c = deactivate-idle (plain_of c.args.parts.now) c.args.grain.now new_grain (grain-new c.args.parts.now c.args.grain.now (sym c.find.ensures.number ∙ c.in_default.is)) refl

pub returns-then-not-is_active-clause-performs : goal.returns-then-not-is_active-clause-performs
returns-then-not-is_active-clause-performs c =
    let idle = ap (λ (a : PlainActivation). a.active) (sym c.at.ensures.activation) ∙ sym c.is_active.ensures ∙ c.if-not-is_active.true in
    deactivate-idle (plain_of c.args.parts.now) c.args.grain.now _ (grain-found c.args.parts.now c.args.grain.now c.in-Some.number no_grain (sym c.find.ensures.number ∙ c.in-Some.is)) idle

pub returns-clause-assembled : goal.returns-clause-assembled
returns-clause-assembled c =
    let parts = c.args.parts.now in
    let subs = c.subs.ensures.subs ∙ ap (λ (a : PlainActivation). a.subs) c.at-2.ensures.activation in
    let rewound : AreRewound (activation_at parts.grains c.in-Some.number).subs parts.subs c.rewind.new.self = subst (λ (numbers : List ℕ). AreRewound numbers parts.subs c.rewind.new.self) subs c.rewind.ensures in
    deactivate-assembled parts c.in-Some.number c.rewind.new.self c.deactivate-lost.new.self (sym c.requires.records.long) c.requires.assembled c.in-Some.ensures.within rewound c.deactivate-lost.ensures.grains

pub returns-clause-performs : goal.returns-clause-performs
returns-clause-performs c =
    let parts = c.args.parts.now in
    let active = ap (λ (a : PlainActivation). a.active) (sym c.at.ensures.activation) ∙ sym c.is_active.ensures ∙ c.if-not-is_active.false in
    let subs = c.subs.ensures.subs ∙ ap (λ (a : PlainActivation). a.subs) c.at-2.ensures.activation in
    let rewound : AreRewound (activation_at parts.grains c.in-Some.number).subs parts.subs c.rewind.new.self = subst (λ (numbers : List ℕ). AreRewound numbers parts.subs c.rewind.new.self) subs c.rewind.ensures in
    deactivate-told parts c.args.grain.now c.in-Some.number c.rewind.new.self c.deactivate-lost.new.self c.deactivate-lost.result (sym c.requires.records.long) c.requires.assembled c.requires.distinct (sym c.find.ensures.number ∙ c.in-Some.is) active rewound
    c.deactivate-lost.ensures.grains c.deactivate-lost.ensures.lost
