use Rattle.activation_directory.proofs.Prelude.{[], ◌∷◌, ◌≤◌, refl, arith}
use Rattle.activation_directory.specs.Laws.{entered, refused}
use Rattle.activation_directory.specs.Placed.{place_in}
use Rattle.activation_directory.specs.Plain.{empty}
use Rattle.activation_directory.specs.Step.{step}
use Rattle.activation_directory.specs.declared.op.DirectoryOp.TheVariants.{Enter}
use Rattle.activation_directory.proofs.Counting.{counts-history, counts-leads, last-enter, numbered-enter}
use Rattle.activation_directory.proofs.Histories.{Leads-split}
use Rattle.activation_directory.proofs.laws.permits_are_limited.Goals as goal

pub returns-clause-limited : goal.returns-clause-limited
returns-clause-limited c permits history d stands =
    let all = counts-history permits history d stands in
    omega (arith, all.0, all.2)

pub returns-clause-counted : goal.returns-clause-counted
returns-clause-counted c permits before later d grain silo permit stands =
    let parts = Leads-split (empty permits) before (entered grain silo permit ∷ later) d stands in
    let front = counts-history permits before parts.0 parts.1 in
    let first = numbered-enter parts.0 grain silo permit (place_in parts.0.placed grain) parts.2.0 in
    let fits : parts.0.given ≤ parts.0.permits = omega (arith, front.1, front.2) in
    let next = counts-leads parts.0 (entered grain silo permit ∷ []) (step parts.0 (Enter grain silo)).0 (parts.2.0, refl) fits in
    (omega (arith, first.0, front.0), omega (arith, first.1, next.2, front.1))

pub returns-clause-spent : goal.returns-clause-spent
returns-clause-spent c permits before later d grain silo stands =
    let parts = Leads-split (empty permits) before (refused grain silo ∷ later) d stands in
    let front = counts-history permits before parts.0 parts.1 in
    let none = last-enter parts.0 grain silo (place_in parts.0.placed grain) parts.2.0 in
    omega (arith, front.0, front.1, front.2, none)
