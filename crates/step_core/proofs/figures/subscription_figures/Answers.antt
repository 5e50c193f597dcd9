use Rattle.step_core.proofs.Prelude.{SubState, ◌≡◌, ◌∙◌, ap, sym, refl, arith, option_map, registration_at}
use Rattle.step_core.specs.Figures.{figures_at}
use Rattle.step_core.specs.PlainOf.{plain_of}
use Rattle.step_core.proofs.ReadLemmas.{found-none, found-sub}
use Rattle.step_core.proofs.figures.subscription_figures.Goals as goal

pub returns-in_err-number : goal.returns-in_err-number
returns-in_err-number c =
    let p = plain_of c.args.parts.now in
    c.from_residual.ensures
    ∙ sym (ap (option_map (figures_at p)) (found-none c.args.parts.now c.args.sub.now c.requires.records (sym c.find.ensures.number ∙ c.in_err-number.was)))

pub returns : goal.returns
returns c =
    let parts = c.args.parts.now in
    let p = plain_of parts in
    let found = found-sub parts c.args.sub.now c.in_ok-number.number c.requires.records (sym c.find.ensures.number ∙ c.in_ok-number.was) in
    let started : c.state-state.result.now.start ≡ (registration_at parts.subs c.in_ok-number.number).start =
    ap (λ (state : SubState). state.start) c.state-state.ensures
    ∙ c.requires.records.starts c.in_ok-number.number (omega (arith, c.in_ok-number.ensures.within, c.requires.records.long)) in
    rw (c.stream.ensures, c.grain.ensures, started, c.as_slice.ensures.positions, c.behind.ensures, c.len.ensures.count, c.state-state.ensures, c.last_handled.ensures, found) refl
