use Rattle.step_core.proofs.Prelude.{PlainActivation, RunningTurn, Delivery, activation_at, no_grain, ◌≡◌, ◌∙◌, ap, sym, List, [], length, Option, Some, None, true, arith, nil_from_length, is_some, none_from_is_some, same_grain, place_of, GrainId, Grain}
use Rattle.grain_table.proofs.ChangeLemmas.{some-copied}
use Rattle.step_core.specs.Records.{record_of}
use Rattle.step_core.specs.Serving.{resting_grain}
use Rattle.step_core.specs.View.{delivery_of, grain_of, turn_of}
use Rattle.step_core.proofs.GrainOps.{value-found}
use Rattle.step_core.proofs.serving.rests.Goals as goal

pub returns : goal.returns
returns c =
    let parts = c.args.parts.now in
    let i = c.in-Some.grain in
    let a = activation_at parts.grains i in
    let at = c.at-activation.ensures.activation in
    let g = (record_of parts c.args.number).grain in
    let found : place_of same_grain g parts.grains ≡ Some i = ap (λ (own : GrainId). place_of same_grain own parts.grains) (sym c.grain.ensures) ∙ sym c.find.ensures.number ∙ c.in-Some.is in
    let empty : a.mailbox ≡ [] = nil_from_length a.mailbox (sym (ap (λ (x : PlainActivation). length x.mailbox) at) ∙ sym c.waiting.ensures.count ∙ omega (arith, c.if-waiting-gt0.false)) in
    let idle : a.running ≡ None =
    none_from_is_some a.running (sym (ap (λ (x : PlainActivation). is_some x.running) at) ∙ sym (ap is_some c.running.ensures) ∙ some-copied c.running.result ∙ sym c.is_some.ensures ∙ c.if-is_some.false) in
    λ active.
    let is_active : a.active ≡ true = sym (ap (λ (x : PlainActivation). x.active) at) ∙ sym c.is_active.ensures ∙ active in
    let names = parts.subs.registry.names in
    let is : grain_of names a ≡ resting_grain a.number =
    λ j. record { activation = a.number; active = is_active j; mailbox = ap (λ (ds : List Delivery). Rattle.std.specs.Prelude.map (delivery_of names) ds) empty j; running = ap (λ (o : Option RunningTurn). Rattle.std.specs.Option.option_map (turn_of names) o) idle j } in
    (a.number, value-found parts g i no_grain found ∙ ap {B = Option Grain} Some is)
