use Rattle.step_core.proofs.Prelude.{PlainActivation, activation_at, PlainGrains, ◌≡◌, ◌∙◌, ap, sym, subst, ℕ, Bool, not, same_grain, place_of-within, Reply, PlainPartition}
use Rattle.std.proofs.lemmas.Bool.{true≢false}
use Rattle.stream_model.specs.declared.reply.Reply.TheVariants as reply
use Rattle.consumer_grain.specs.declared.told.Offered.TheVariants as offer
use Rattle.step_core.specs.Assembly.{IsAssembled}
use Rattle.step_core.specs.declared.parts.Parts.{Parts}
use Rattle.step_core.specs.PlainOf.{plain_of}
use Rattle.step_core.specs.Records.{record_of}
use Rattle.step_core.proofs.HandOps.{HasRise, Hands, OfferIs, hands-assembled, hands-full, hands-known, hands-memory, hands-performs, hands-spent, offer-first, offer-is, position-few, position-there, untouched-unknown}
use Rattle.step_core.proofs.KnownOps.{unknown-to_own}
use Rattle.step_core.proofs.delivering.hand_to.Goals as goal
use Rattle.step_core.proofs.delivering.hand_to.Goals.{else-wakes-via-then-wakes+else-is_spent, else-wakes-via-else-wakes}

-- what was seen of the activation is so of the grain
seen : (parts : Parts) (j : ℕ) (active : Bool) (a : PlainActivation) → active ≡ a.active → a ≡ activation_at parts.grains j → (activation_at parts.grains j).active ≡ active
seen parts j active a is at = sym (is ∙ ap (λ (b : PlainActivation). b.active) at)

pub at-requires : goal.at-requires
at-requires c = place_of-within same_grain (record_of c.args.parts.now c.args.delivery.sub).grain c.args.grain c.args.parts.now.grains c.requires.grain

pub returns-then-is_spent-clause-performs : goal.returns-then-is_spent-clause-performs
returns-then-is_spent-clause-performs c =
    let parts = c.args.parts.now in
    let active = seen parts c.args.grain c.is_active-wakes.result c.at.result.now c.is_active-wakes.ensures c.at.ensures.activation in
    sym (hands-spent (hands-known parts c.args.delivery c.args.grain c.requires.agrees c.requires.next c.requires.grain) (active ∙ c.if-wakes.true) (sym c.is_spent.ensures ∙ c.if-is_spent.true))

pub offer-requires : goal.offer-requires
offer-requires c = place_of-within same_grain (record_of c.args.parts.now c.args.delivery.sub).grain c.args.grain c.args.parts.now.grains c.requires.grain

pub returns-in_err-offer-clause-memory : goal.returns-in_err-offer-clause-memory
returns-in_err-offer-clause-memory c =
    let parts = c.args.parts.now in
    let active = seen parts c.args.grain c.is_active-wakes.result c.at.result.now c.is_active-wakes.ensures c.at.ensures.activation in
    let rise : HasRise parts (activation_at parts.grains c.args.grain).active = elim c.else-wakes.branch [
      | else-wakes-via-then-wakes+else-is_spent w ↦ λ idle. sym w.is_spent.ensures ∙ w.if-is_spent.false
      | else-wakes-via-else-wakes w ↦ λ idle. absurd (true≢false (sym w.if-wakes.false ∙ (sym active ∙ idle)))
    ] in
    hands-memory (hands-known parts c.args.delivery c.args.grain c.requires.agrees c.requires.next c.requires.grain) c.from_residual.result (offer-first c.args.grain parts.grains c.args.delivery c.in_err-offer.ensures.memory).0 rise

pub returns-in_err-offer-clause-first : goal.returns-in_err-offer-clause-first
returns-in_err-offer-clause-first c =
    let parts = c.args.parts.now in
    untouched-unknown c.from_residual.result c.requires.agrees c.requires.next
    (unknown-to_own parts.subs.registry.names parts.grains c.args.delivery.sub c.args.grain c.requires.agrees.distinct c.requires.grain (offer-first c.args.grain parts.grains c.args.delivery c.in_err-offer.ensures.memory).1)

pub sent-requires-clause-position : goal.sent-requires-clause-position
sent-requires-clause-position c = position-there c.args.parts.now c.args.delivery c.requires.agrees c.requires.next

pub sent-requires-clause-room : goal.sent-requires-clause-room
sent-requires-clause-room c = position-few c.args.parts.now c.args.delivery c.requires.agrees c.requires.next

pub returns-in-MailboxFull : goal.returns-in-MailboxFull
returns-in-MailboxFull c =
    let parts = c.args.parts.now in
    let full : OfferIs c.args.grain parts.grains c.offer.new.self c.args.delivery offer.MailboxFull =
    subst (OfferIs c.args.grain parts.grains c.offer.new.self c.args.delivery) c.in-MailboxFull.is (offer-is c.args.grain parts.grains c.offer.new.self c.args.delivery c.in_ok-offer.field-0 c.in_ok-offer.ensures.performs) in
    record {
      assembled = subst (λ (gs : PlainGrains). IsAssembled (record parts { grains = gs })) (sym full.0) c.requires.agrees.assembled;
      performs =
          ap {B = PlainPartition × Reply} (λ (gs : PlainGrains). (plain_of (record parts { grains = gs }), reply.MailboxFull)) full.0
          ∙ sym (hands-full (hands-known parts c.args.delivery c.args.grain c.requires.agrees c.requires.next c.requires.grain) full.1);
      told = tt;
      memory = tt;
      first = tt;
    }

pub returns-in-Delivered : goal.returns-in-Delivered
returns-in-Delivered c =
    let parts = c.args.parts.now in
    let active = seen parts c.args.grain c.is_active-wakes.result c.at.result.now c.is_active-wakes.ensures c.at.ensures.activation in
    let rise : HasRise parts (activation_at parts.grains c.args.grain).active = elim c.else-wakes.branch [
      | else-wakes-via-then-wakes+else-is_spent w ↦ λ idle. sym w.is_spent.ensures ∙ w.if-is_spent.false
      | else-wakes-via-else-wakes w ↦ λ idle. absurd (true≢false (sym w.if-wakes.false ∙ (sym active ∙ idle)))
    ] in
    let taken : OfferIs c.args.grain parts.grains c.offer.new.self c.args.delivery offer.Delivered =
    subst (OfferIs c.args.grain parts.grains c.offer.new.self c.args.delivery) c.in-Delivered.is (offer-is c.args.grain parts.grains c.offer.new.self c.args.delivery c.in_ok-offer.field-0 c.in_ok-offer.ensures.performs) in
    let hands : Hands parts c.args.delivery (activation_at parts.grains c.args.grain) c.offer.new.self =
    subst (Hands parts c.args.delivery (activation_at parts.grains c.args.grain)) (sym taken.0) (hands-known parts c.args.delivery c.args.grain c.requires.agrees c.requires.next c.requires.grain) in
    record {
      assembled = hands-assembled hands (not c.is_active-wakes.result) c.sent.ensures.parts;
      performs = hands-performs hands (not c.is_active-wakes.result) taken.1 rise (ap not (sym active)) c.sent.ensures.parts c.sent.ensures.reply;
      told = c.sent.ensures.told;
      memory = tt;
      first = tt;
    }
