use Rattle.pubsub_registry.proofs.Prelude.{refl, same_stream}
use Rattle.pubsub_registry.specs.Packed.{ids_in}
use Rattle.pubsub_registry.proofs.PackedLemmas.{grown-same, packed-grown, row-made, values-grown}
use Rattle.pubsub_registry.proofs.packed.row_for.Goals as goal

pub returns-in_err-stream-clause-rows : goal.returns-in_err-stream-clause-rows
returns-in_err-stream-clause-rows c = λ stream.
    values-grown (same_stream stream) c.new.result _ _ c.new.ensures.items c.number_of.ensures.grown

-- where only the stream was added
pub returns-in_err-stream-clause-packed : goal.returns-in_err-stream-clause-packed
returns-in_err-stream-clause-packed c = λ rows is.
    let grown = c.number_of.ensures in
    packed-grown _ _ _ _ rows c.new.result tt c.new.ensures.items grown.grown (grown-same tt _ _ refl) grown.unique is.grains_apart grown.few is.few_grains is

pub returns-in_err-grain-clause-rows : goal.returns-in_err-grain-clause-rows
returns-in_err-grain-clause-rows c = λ stream.
    values-grown (same_stream stream) c.new.result _ _ c.new.ensures.items c.number_of.ensures.grown

pub returns-in_err-grain-clause-packed : goal.returns-in_err-grain-clause-packed
returns-in_err-grain-clause-packed c = λ rows is.
    let streams = c.number_of.ensures in
    let grains = c.number_of-2.ensures in
    packed-grown _ _ _ _ rows c.new.result _ c.new.ensures.items streams.grown grains.grown streams.unique grains.unique streams.few grains.few is

pub returns-clause-own : goal.returns-clause-own
returns-clause-own c =
    row-made (ids_in c.number_of.new.map c.number_of-2.new.map) c.args.registration.now c.in_ok-grain.grain c.in_ok-stream.stream c.in_ok-grain.ensures.number c.in_ok-stream.ensures.number

pub returns-clause-rows : goal.returns-clause-rows
returns-clause-rows c = λ stream. values-grown (same_stream stream) c.new.result _ _ c.new.ensures.items c.number_of.ensures.grown

pub returns-clause-packed : goal.returns-clause-packed
returns-clause-packed c = λ rows is.
    let streams = c.number_of.ensures in
    let grains = c.number_of-2.ensures in
    packed-grown _ _ _ _ rows c.new.result _ c.new.ensures.items streams.grown grains.grown streams.unique grains.unique streams.few grains.few is
