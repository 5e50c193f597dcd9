-- One permit of a grain is out at a time.
use Rattle.activation_directory.proofs.Prelude.{◌∷◌, ◌++◌}
use Rattle.activation_directory.specs.Laws.{entered, OnePermitAtATime}
use Rattle.activation_directory.specs.Placed.{place_in}
use Rattle.activation_directory.specs.Plain.{empty}
use Rattle.activation_directory.specs.Step.{step}
use Rattle.activation_directory.specs.declared.op.DirectoryOp.TheVariants.{Enter}
use Rattle.activation_directory.proofs.Histories.{Leads-split}
use Rattle.activation_directory.proofs.Holding.{held-enter, until}
use Rattle.activation_directory.proofs.Unique.{unique-leads, unique-step}

pub one-permit : OnePermitAtATime
one-permit permits before between later d grain silo permit asked other stands =
    let parts = Leads-split (empty permits) before (entered grain silo permit ∷ (between ++ entered grain asked other ∷ later)) d stands in
    let holds = held-enter parts.0 grain silo permit (place_in parts.0.placed grain) parts.2.0 in
    let unique = unique-step parts.0 (unique-leads (empty permits) before parts.0 tt parts.1) (Enter grain silo) in
    until (step parts.0 (Enter grain silo)).0 grain silo permit holds unique between later d asked other parts.2.1
