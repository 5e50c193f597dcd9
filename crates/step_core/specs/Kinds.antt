-- Which operations take no memory, whatever they find.
use Rattle.stream_model.specs.declared.op.Op.{Op}
use Rattle.stream_model.specs.declared.op.Op.TheVariants as op

abbrev pub IsFree : Op → Type 0
IsFree (op.Publish stream payloads) = ⊥
IsFree (op.Subscribe stream grain start) = ⊥
IsFree (op.AddRule name namespace) = ⊥
IsFree (op.Pull generation most) = ⊥
IsFree (op.Deliver generation sub) = ⊥
IsFree (op.Commit grain activation turn note) = ⊥
IsFree _ = Unit {0}
