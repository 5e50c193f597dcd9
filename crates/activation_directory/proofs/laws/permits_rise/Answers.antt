use Rattle.activation_directory.proofs.Prelude.{◌∷◌, ◌++◌, arith}
use Rattle.activation_directory.specs.Laws.{entered}
use Rattle.activation_directory.specs.Placed.{place_in}
use Rattle.activation_directory.specs.Plain.{empty}
use Rattle.activation_directory.specs.Step.{step}
use Rattle.activation_directory.specs.declared.op.DirectoryOp.TheVariants.{Enter}
use Rattle.activation_directory.proofs.Histories.{Leads-split}
use Rattle.activation_directory.proofs.Counting.{grows-leads, numbered-enter}
use Rattle.activation_directory.proofs.laws.permits_rise.Goals as goal

pub returns : goal.returns
returns c permits before between later d grain other silo permit asked next stands =
    let parts = Leads-split (empty permits) before (entered grain silo permit ∷ (between ++ entered other asked next ∷ later)) d stands in
    let first = numbered-enter parts.0 grain silo permit (place_in parts.0.placed grain) parts.2.0 in
    let rest = Leads-split (step parts.0 (Enter grain silo)).0 between (entered other asked next ∷ later) d parts.2.1 in
    let second = numbered-enter rest.0 other asked next (place_in rest.0.placed other) rest.2.0 in
    omega (arith, first.1, second.0, grows-leads (step parts.0 (Enter grain silo)).0 between rest.0 rest.1)
