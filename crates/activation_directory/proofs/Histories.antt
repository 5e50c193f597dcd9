-- A legal history in two parts, and what an entry of it adds to what is found in it.
use Rattle.activation_directory.proofs.Prelude.{ℕ, List, [], ◌∷◌, ◌++◌, refl, GrainId}
use Rattle.std.proofs.lemmas.List.Elements.{Contains-append_right}
use Rattle.activation_directory.specs.Laws.{IsFreed, left, released}
use Rattle.activation_directory.specs.Plain.{PlainDirectory}
use Rattle.activation_directory.specs.Step.{Entry, Leads, step}
use mathlib.Core.Logic.{inl, inr}

-- the directory between two parts
pub Leads-split : (d : PlainDirectory) (entries later : List Entry) (e : PlainDirectory) → Leads d (entries ++ later) e → (m : PlainDirectory) × Leads d entries m × Leads m later e
Leads-split d [] later e leads = (d, refl, leads)
Leads-split d (x ∷ xs) later e leads =
    let rest = Leads-split (step d x.op).0 xs later e leads.1 in
    (rest.0, (leads.0, rest.1), rest.2)

pub IsFreed-later : (x : Entry) (xs : List Entry) (grain : GrainId) (silo permit : ℕ) → IsFreed xs grain silo permit → IsFreed (x ∷ xs) grain silo permit
IsFreed-later x xs grain silo permit (inl there) = inl (Contains-append_right (x ∷ []) xs (left grain permit) there)
IsFreed-later x xs grain silo permit (inr there) =
    inr (there.0, Contains-append_right (x ∷ []) xs (released grain silo there.0) there.1)
