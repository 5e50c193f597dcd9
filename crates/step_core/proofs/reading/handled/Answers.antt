use Rattle.step_core.proofs.Prelude.{◌≡◌, ◌∙◌, ap, subst, ◌<◌, ℕ, length, IfOk, Option, Some, None, refl, events_at, PlainPartition, Subscription, sub_at}
use Rattle.std.proofs.lemmas.List.Elements.{All-from_recursion}
use Rattle.step_core.specs.PlainOf.{plain_of}
use Rattle.step_core.specs.Reads.{handled_by, positions_by}
use Rattle.step_core.proofs.reading.handled.Goals as goal

handled-at : (p : PlainPartition) (found : Option Subscription) → events_at p.log (positions_by found) ≡ handled_by p found
handled-at p None = refl
handled-at p (Some r) = refl

pub events_at-requires : goal.events_at-requires
events_at-requires c = All-from_recursion (λ (position : ℕ). position < length c.args.parts.now.queue.events) _ c.handled_positions.ensures.within

pub returns : goal.returns
returns c =
    let p = plain_of c.args.parts.now in
    subst (λ told. IfOk c.events_at.result (λ events. events.items ≡ told)) (ap (events_at p.log) c.handled_positions.ensures.positions ∙ handled-at p (sub_at p c.args.sub.now)) c.events_at.ensures
