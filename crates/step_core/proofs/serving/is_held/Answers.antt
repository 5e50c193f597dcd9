use Rattle.step_core.proofs.Prelude.{holds, ◌≡◌, ◌∙◌, ap, sym, ℕ, Option, same_grain, place_of, GrainId, name_at, registration_at}
use Rattle.step_core.specs.declared.parts.Parts.{Parts}
use Rattle.step_core.specs.Records.{record_of}
use Rattle.step_core.proofs.HandOps.{Stands, held-idle, held-nowhere, held-there}
use Rattle.step_core.proofs.serving.is_held.Goals as goal

-- the number of the grain, as it was found
found : (parts : Parts) (number : ℕ) (own : GrainId) (grain : Option ℕ) → own ≡ (registration_at parts.subs number).grain → grain ≡ place_of same_grain own parts.grains → place_of same_grain (record_of parts number).grain parts.grains ≡ grain
found parts number own grain its at = ap (λ (g : GrainId). place_of same_grain g parts.grains) (sym its) ∙ sym at

pub returns-then-is_idle : goal.returns-then-is_idle
returns-then-is_idle c =
    let stands : Stands c.args.parts.now c.args.number = record { agrees = c.requires.agrees; within = c.requires.number } in
    sym (held-idle c.args.parts.now c.args.number stands (c.is_idle.ensures.0 c.if-is_idle.true))

pub returns-in-Some : goal.returns-in-Some
returns-in-Some c =
    let parts = c.args.parts.now in
    let stands : Stands parts c.args.number = record { agrees = c.requires.agrees; within = c.requires.number } in
    let at = found parts c.args.number c.grain.result.now c.find.result c.grain.ensures c.find.ensures.number in
    c.holds.ensures ∙ ap (holds c.args.number) c.at.ensures.activation ∙ sym (held-there parts c.args.number c.in-Some.grain stands (at ∙ c.in-Some.is))

pub returns-in-None : goal.returns-in-None
returns-in-None c =
    let parts = c.args.parts.now in
    let at = found parts c.args.number c.grain.result.now c.find.result c.grain.ensures c.find.ensures.number in
    sym (held-nowhere parts c.args.number (name_at parts.subs c.args.number) (at ∙ c.in-None.is))
