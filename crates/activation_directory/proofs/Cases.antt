-- What a step comes to, in each case.
use Rattle.activation_directory.proofs.Prelude.{◌≡◌, ℕ, suc, true, false, Option, Some, None, is_some, refl, cond_both, nat_lt, ◌==◌, has_number, GrainId}
use Rattle.activation_directory.specs.declared.op.DirectoryOp.{DirectoryOp}
use Rattle.activation_directory.specs.declared.op.DirectoryOp.TheVariants.{Enter, Leave, Unplace, Down}
use Rattle.activation_directory.specs.declared.place.Place.{Place}
use Rattle.activation_directory.specs.declared.reply.DirectoryReply.{DirectoryReply}
use Rattle.activation_directory.specs.declared.reply.DirectoryReply.TheVariants.{Elsewhere, Busy, Spent, Entered, NotYours, Left, NotPlaced, Unplaced, NoneLeft, Released}
use Rattle.activation_directory.specs.Laws.{is_permit}
use Rattle.activation_directory.specs.Placed.{place_in, with_place, without, least_on, count_on}
use Rattle.activation_directory.specs.Plain.{PlainDirectory}
use Rattle.activation_directory.specs.Step.{enter, leave, unplace, down, step, taken_out}

-- the directory with a place of a grain, and so many permits given
abbrev pub placed_in : PlainDirectory → GrainId → Place → ℕ → PlainDirectory
placed_in d grain place given = record { placed = with_place d.placed grain place; given = given; permits = d.permits }

module _ (P : PlainDirectory × DirectoryReply → Type 0) (d : PlainDirectory) where
  pub enter-cases : (grain : GrainId) (silo : ℕ) (found : Option Place) → (nat_lt d.given d.permits ≡ true → P (placed_in d grain (record { silo = silo; permit = Some (suc d.given) }) (suc d.given), Entered (suc d.given)))
      → (nat_lt d.given d.permits ≡ false → P (d, Spent)) → P (d, Busy) → ((other : ℕ) → (other == silo) ≡ false → P (d, Elsewhere other)) → P (enter d grain silo found)
  enter-cases grain silo None more spent busy elsewhere = cond_both (nat_lt d.given d.permits) _ _ P more spent
  enter-cases grain silo (Some place) more spent busy elsewhere = cond_both (place.silo == silo) _ _ P
      (λ here. cond_both (is_some place.permit) _ _ P (λ out. busy) (λ free. cond_both (nat_lt d.given d.permits) _ _ P more spent)) (elsewhere place.silo)

  pub leave-cases : (grain : GrainId) (permit : ℕ) (found : Option Place) → P (d, NotYours) → ((place : Place) → P (placed_in d grain place d.given, Left)) → P (leave d grain permit found)
  leave-cases grain permit None not left = not
  leave-cases grain permit (Some place) not left = cond_both (has_number permit place.permit) _ _ P (λ is. left (record { silo = place.silo; permit = None })) (λ isnt. not)

  pub unplace-cases : (grain : GrainId) (found : Option Place) → P (d, NotPlaced) → P (d, Busy) → P (taken_out d grain, Unplaced) → P (unplace d grain found)
  unplace-cases grain None none busy out = none
  unplace-cases grain (Some place) none busy out = cond_both (is_some place.permit) _ _ P (λ is. busy) (λ free. out)

  down-cases : (silo : ℕ) (found : Option GrainId) → P (d, NoneLeft) → ((grain : GrainId) (count : ℕ) → P (taken_out d grain, Released grain count)) → P (down d silo found)
  down-cases silo None none out = none
  down-cases silo (Some grain) none out = out grain (count_on silo (without d.placed grain))

  -- the directory is as it was, or a permit is given, or one comes back, or a grain is taken out
  pub step-cases : (op : DirectoryOp) → ((reply : DirectoryReply) → is_permit reply ≡ false → P (d, reply)) → ((grain : GrainId) (place : Place) → nat_lt d.given d.permits ≡ true → P (placed_in d grain place (suc d.given), Entered (suc d.given)))
      → ((grain : GrainId) (place : Place) → P (placed_in d grain place d.given, Left)) → ((grain : GrainId) (reply : DirectoryReply) → is_permit reply ≡ false → P (taken_out d grain, reply)) → P (step d op)
  step-cases (Enter grain silo) same more left out = enter-cases grain silo (place_in d.placed grain) (more grain _) (λ spent. same Spent refl) (same Busy refl) (λ other away. same (Elsewhere other) refl)
  step-cases (Leave grain permit) same more left out = leave-cases grain permit (place_in d.placed grain) (same NotYours refl) (left grain)
  step-cases (Unplace grain) same more left out = unplace-cases grain (place_in d.placed grain) (same NotPlaced refl) (same Busy refl) (out grain Unplaced refl)
  step-cases (Down silo) same more left out = down-cases silo (least_on silo d.placed) (same NoneLeft refl) (λ grain count. out grain (Released grain count) refl)
