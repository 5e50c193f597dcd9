use Rattle.pubsub_registry.proofs.Prelude.{◌∙◌, Some, sym, ap, keys_of, same_grain-equal, same_grain-refl, same_stream-equal, same_stream-refl, same_grain, same_stream}
use Rattle.pubsub_registry.specs.Packed.{ids_in}
use Rattle.pubsub_registry.proofs.PackedLemmas.{if-none, key-found, key-missing, name-made, no-key}
use Rattle.pubsub_registry.proofs.packed.known_key.Goals as goal

pub returns-in_err-number-in-Implicit-clause-none : goal.returns-in_err-number-in-Implicit-clause-none
returns-in_err-number-in-Implicit-clause-none c =
    if-none _ c.from_residual.result
    (no-key (ids_in c.args.streams.now c.args.grains.now) c.args.sub.now c.in-Implicit.kind c.in-Implicit.stream c.in-Implicit.is
    (λ g n of_grain. key-missing same_stream same_stream-refl (keys_of c.args.streams.now.entries) c.in-Implicit.stream (sym c.in_err-number-in-Implicit.ensures.number) n))

pub returns-in_err-grain-in-Implicit-clause-none : goal.returns-in_err-grain-in-Implicit-clause-none
returns-in_err-grain-in-Implicit-clause-none c =
    if-none _ c.from_residual-in_err-grain-in-Implicit.result
    (no-key (ids_in c.args.streams.now c.args.grains.now) c.args.sub.now c.in-Implicit.kind c.in-Implicit.stream c.in-Implicit.is
    (λ g n of_grain of_stream. key-missing same_grain same_grain-refl (keys_of c.args.grains.now.entries) c.implied_grain.result (sym c.in_err-grain-in-Implicit.ensures.number) g (of_grain ∙ ap Some (sym c.implied_grain.ensures))))

pub returns-in_ok-grain-in-Implicit-clause-some : goal.returns-in_ok-grain-in-Implicit-clause-some
returns-in_ok-grain-in-Implicit-clause-some c =
    let streams = keys_of c.args.streams.now.entries in
    let grains = keys_of c.args.grains.now.entries in
    let of_grain = key-found same_grain same_grain-equal grains c.implied_grain.result c.in_ok-grain-in-Implicit.grain (sym c.in_ok-grain-in-Implicit.ensures.number) in
    let of_stream = key-found same_stream same_stream-equal streams c.in-Implicit.stream c.in_ok-number-in-Implicit.number (sym c.in_ok-number-in-Implicit.ensures.number) in
    let made = name-made (ids_in c.args.streams.now c.args.grains.now) c.in-Implicit.kind c.in-Implicit.stream c.in_ok-grain-in-Implicit.grain c.in_ok-number-in-Implicit.number (of_grain ∙ ap Some c.implied_grain.ensures) of_stream in
    (made.0, made.1 ∙ sym c.in-Implicit.is)
