use Rattle.step_core.proofs.Prelude.{can_begin, PlainActivation, activation_at, ◌≡◌, ◌∙◌, ap, ap₂, sym, subst, ◌+◌, ◌&&◌, Bool, true, false, length, arith, suc, is_some, past, Reply, PlainPartition}
use Rattle.std.specs.List.{slice_get}
use Rattle.grain_table.proofs.ChangeLemmas.{some-copied}
use Rattle.step_core.specs.Assembly.{IsAssembled}
use Rattle.step_core.specs.declared.parts.Parts.{Parts}
use Rattle.step_core.specs.PlainOf.{plain_of}
use Rattle.step_core.specs.TurnReplies.{of_begun}
use Rattle.step_core.proofs.BeginOps.{begin-assembled, begin-spent, begin-told, begin-within, with_grains}
use Rattle.step_core.proofs.NumberedOps.{HasGrain, grain-below}
use Rattle.step_core.proofs.TurnOps.{begin-idle, begin-none, front-numbered, front-past}
use Rattle.step_core.proofs.turns.begin.Goals as goal

pub returns-in_default-clause-performs : goal.returns-in_default-clause-performs
returns-in_default-clause-performs c = sym (begin-none c.args.parts.now c.args.grain.now c.args.max (sym c.find.ensures.number ∙ c.in_default.is))

pub returns-then-is_some-clause-performs : goal.returns-then-is_some-clause-performs
returns-then-is_some-clause-performs c =
    let none = ap (λ (a : PlainActivation). slice_get a.mailbox 0) (sym c.at-activation.ensures.activation) ∙ (sym c.front.ensures ∙ c.in_default-front.is) in
    let busy = ap (λ (a : PlainActivation). is_some a.running) (sym c.at-activation.ensures.activation) ∙ (ap is_some (sym c.running.ensures) ∙ (some-copied c.running.result ∙ sym c.is_some.ensures)) in
    sym (begin-idle c.args.parts.now c.args.grain.now c.in-Some.number c.args.max true (sym c.find.ensures.number ∙ c.in-Some.is) none (busy ∙ c.if-is_some.true))

pub returns-in_default-front-clause-performs : goal.returns-in_default-front-clause-performs
returns-in_default-front-clause-performs c =
    let none = ap (λ (a : PlainActivation). slice_get a.mailbox 0) (sym c.at-activation.ensures.activation) ∙ (sym c.front.ensures ∙ c.in_default-front.is) in
    let busy = ap (λ (a : PlainActivation). is_some a.running) (sym c.at-activation.ensures.activation) ∙ (ap is_some (sym c.running.ensures) ∙ (some-copied c.running.result ∙ sym c.is_some.ensures)) in
    sym (begin-idle c.args.parts.now c.args.grain.now c.in-Some.number c.args.max false (sym c.find.ensures.number ∙ c.in-Some.is) none (busy ∙ c.if-is_some.false))

pub state-state-requires : goal.state-state-requires
state-state-requires c =
    let parts = c.args.parts.now in
    let has : HasGrain parts c.args.grain.now c.in-Some.number = record { agrees = c.requires; found = sym c.find.ensures.number ∙ c.in-Some.is } in
    let is_front = ap (λ (a : PlainActivation). slice_get a.mailbox 0) (sym c.at-activation.ensures.activation) ∙ (sym c.front.ensures ∙ c.in-Some-front.is) in
    front-numbered (length parts.subs.registry.names) (activation_at parts.grains c.in-Some.number).mailbox c.in-Some-front.front is_front (grain-below has).waiting

pub returns-then-wants_rise-clause-performs : goal.returns-then-wants_rise-clause-performs
returns-then-wants_rise-clause-performs c =
    let parts = c.args.parts.now in
    let has : HasGrain parts c.args.grain.now c.in-Some.number = record { agrees = c.requires; found = sym c.find.ensures.number ∙ c.in-Some.is } in
    let is_front = ap (λ (a : PlainActivation). slice_get a.mailbox 0) (sym c.at-activation.ensures.activation) ∙ (sym c.front.ensures ∙ c.in-Some-front.is) in
    let handled = past c.state-state.result.now.handled in
    let wants = c.wants_rise.ensures ∙ ap₂ (λ (a : PlainActivation) (spent : Bool). can_begin a handled && spent) c.at-activation.ensures.activation c.is_spent-is_spent.ensures in
    sym (begin-spent parts c.args.grain.now c.in-Some.number c.args.max handled has (front-past parts c.in-Some.number c.in-Some-front.front c.state-state.result.now is_front c.state-state.ensures) (sym wants ∙ c.if-wants_rise.true))

pub outcome_of_begun-requires-clause-begun : goal.outcome_of_begun-requires-clause-begun
outcome_of_begun-requires-clause-begun c =
    let parts = c.args.parts.now in
    let has : HasGrain parts c.args.grain.now c.in-Some.number = record { agrees = c.requires; found = sym c.find.ensures.number ∙ c.in-Some.is } in
    begin-within parts c.args.grain.now c.in-Some.number (past c.state-state.result.now.handled) c.args.max (parts.turns + 1) c.begin-begun.new.self c.begin-begun.result has c.begin-begun.ensures.begun

pub returns-clause-assembled : goal.returns-clause-assembled
returns-clause-assembled c =
    let parts = c.args.parts.now in
    subst IsAssembled (sym c.outcome_of_begun.ensures.parts)
    (begin-assembled parts c.in-Some.number (past c.state-state.result.now.handled) c.args.max (parts.turns + 1) c.begin-begun.new.self c.begin-begun.result c.requires.assembled c.in-Some.ensures.within c.begin-begun.ensures.grains)

pub returns-clause-performs : goal.returns-clause-performs
returns-clause-performs c =
    let parts = c.args.parts.now in
    let has : HasGrain parts c.args.grain.now c.in-Some.number = record { agrees = c.requires; found = sym c.find.ensures.number ∙ c.in-Some.is } in
    let is_front = ap (λ (a : PlainActivation). slice_get a.mailbox 0) (sym c.at-activation.ensures.activation) ∙ (sym c.front.ensures ∙ c.in-Some-front.is) in
    let handled = past c.state-state.result.now.handled in
    let wants = c.wants_rise.ensures ∙ ap₂ (λ (a : PlainActivation) (spent : Bool). can_begin a handled && spent) c.at-activation.ensures.activation c.is_spent-is_spent.ensures in
    let next : parts.turns + 1 ≡ suc parts.turns = omega arith in
    let begun = with_grains parts c.begin-begun.new.self in
    let is_own = c.number-own.ensures ∙ ap (λ (a : PlainActivation). a.number) c.at-activation.ensures.activation in
    ap₂ {C = PlainPartition × Reply} (λ (p : Parts) (told : Reply). (plain_of p, told)) c.outcome_of_begun.ensures.parts (c.outcome_of_begun.ensures.reply ∙ ap (λ n. of_begun begun n c.begin-begun.result) is_own)
    ∙ sym (begin-told parts c.args.grain.now c.in-Some.number c.args.max handled (parts.turns + 1) c.begin-begun.new.self c.begin-begun.result has (front-past parts c.in-Some.number c.in-Some-front.front c.state-state.result.now is_front c.state-state.ensures) next (sym wants ∙ c.if-wants_rise.false)
    c.begin-begun.ensures.grains c.begin-begun.ensures.begun)
