use Rattle.step_core.proofs.Prelude.{map}
use Rattle.step_core.proofs.OutcomeLemmas.{fails}
use Rattle.step_core.proofs.PublishOps.{append-memory, appends, appends-assembled}
use Rattle.step_core.proofs.Shared.{high-end}
use Rattle.step_core.proofs.publishing.publish_slices.Goals as goal

pub returns-clause-assembled : goal.returns-clause-assembled
returns-clause-assembled c =
    appends-assembled c.args.parts.now c.args.stream.now (map (λ payload. payload.now) c.args.payloads.now) c.append_slices.new.self c.append_slices.result (high-end c.args.parts.now c.requires.agrees) c.requires.agrees.assembled c.append_slices.ensures.performs

pub returns-clause-performs : goal.returns-clause-performs
returns-clause-performs c =
    appends c.args.parts.now c.args.stream.now (map (λ payload. payload.now) c.args.payloads.now) c.append_slices.new.self c.append_slices.result c.requires.agrees.assembled c.append_slices.ensures.performs

pub returns-clause-memory : goal.returns-clause-memory
returns-clause-memory c =
    fails c.append_slices.result c.append_slices.ensures.memory (append-memory c.args.parts.now c.args.stream.now (map (λ payload. payload.now) c.args.payloads.now) c.requires.agrees.assembled)
