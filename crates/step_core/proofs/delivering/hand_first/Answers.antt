use Rattle.step_core.proofs.Prelude.{new_activation, ◌∙◌, ap, refl, sym, subst, true, GrainId}
use Rattle.grain_table.specs.Grains.{with_grain}
use Rattle.step_core.proofs.HandOps.{Hands, hands-assembled, hands-first, hands-memory, hands-performs, hands-spent, position-few, position-there, untouched-unknown}
use Rattle.step_core.proofs.KnownOps.{unknown-nowhere}
use Rattle.step_core.proofs.delivering.hand_first.Goals as goal

pub returns-then-is_spent-clause-performs : goal.returns-then-is_spent-clause-performs
returns-then-is_spent-clause-performs c =
    sym (hands-spent (hands-first c.args.parts.now c.args.delivery c.requires.agrees c.requires.next c.requires.first) refl (sym c.is_spent.ensures ∙ c.if-is_spent.true))

pub returns-in_err-add-clause-memory : goal.returns-in_err-add-clause-memory
returns-in_err-add-clause-memory c =
    hands-memory (hands-first c.args.parts.now c.args.delivery c.requires.agrees c.requires.next c.requires.first) c.from_residual.result refl (λ idle. sym c.is_spent.ensures ∙ c.if-is_spent.false)

pub returns-in_err-add-clause-first : goal.returns-in_err-add-clause-first
returns-in_err-add-clause-first c =
    let parts = c.args.parts.now in
    untouched-unknown c.from_residual.result c.requires.agrees c.requires.next (unknown-nowhere parts.subs.registry.names parts.grains c.args.delivery.sub c.requires.first)

pub sent-requires-clause-position : goal.sent-requires-clause-position
sent-requires-clause-position c = position-there c.args.parts.now c.args.delivery c.requires.agrees c.requires.next

pub sent-requires-clause-room : goal.sent-requires-clause-room
sent-requires-clause-room c = position-few c.args.parts.now c.args.delivery c.requires.agrees c.requires.next

pub returns : goal.returns
returns c =
    let parts = c.args.parts.now in
    let hands : Hands parts c.args.delivery new_activation c.add.new.self =
    subst (Hands parts c.args.delivery new_activation) (sym (c.in_ok-add.ensures ∙ ap (λ (grain : GrainId). with_grain parts.grains grain c.args.delivery) c.grain-grain.ensures))
    (hands-first parts c.args.delivery c.requires.agrees c.requires.next c.requires.first) in
    record {
      assembled = hands-assembled hands true c.sent.ensures.parts;
      performs = hands-performs hands true refl (λ idle. sym c.is_spent.ensures ∙ c.if-is_spent.false) refl c.sent.ensures.parts c.sent.ensures.reply;
      told = c.sent.ensures.told;
      memory = tt;
      first = tt;
    }
