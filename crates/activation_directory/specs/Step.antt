-- One operation on a directory: what it leaves, and its reply. A history is legal where each reply is
-- that of its step.
use Rattle.std.specs.Prelude.{ℕ, suc, Bool, false, ◌&&◌, not, ◌==◌, nat_lt, List, Option, Some, None, is_some, if◌then◌else◌}
use Rattle.stream_ident.specs.declared.ident.GrainId.{GrainId}
use Rattle.stream_ident.specs.Words.{has_number, LeadsBy}
use Rattle.activation_directory.specs.declared.op.DirectoryOp.{DirectoryOp}
use Rattle.activation_directory.specs.declared.op.DirectoryOp.TheVariants.{Enter, Leave, Unplace, Down}
use Rattle.activation_directory.specs.declared.place.Place.{Place}
use Rattle.activation_directory.specs.declared.reply.DirectoryReply.{DirectoryReply}
use Rattle.activation_directory.specs.declared.reply.DirectoryReply.TheVariants.{Elsewhere, Busy, Spent, Entered, NotYours, Left, NotPlaced, Unplaced, NoneLeft, Released}
use Rattle.activation_directory.specs.Placed.{place_in, with_place, without, least_on, count_on}
use Rattle.activation_directory.specs.Plain.{PlainDirectory, empty}

-- the grain is placed on the silo with the next permit, where one is left
abbrev pub admit : PlainDirectory → GrainId → ℕ → PlainDirectory × DirectoryReply
admit d grain silo =
    if nat_lt d.given d.permits
    then (record { placed = with_place d.placed grain (record { silo = silo; permit = Some (suc d.given) }); given = suc d.given; permits = d.permits }, Entered (suc d.given))
    else (d, Spent)

abbrev pub enter : PlainDirectory → GrainId → ℕ → Option Place → PlainDirectory × DirectoryReply
enter d grain silo None = admit d grain silo
enter d grain silo (Some place) =
    if place.silo == silo then (if is_some place.permit then (d, Busy) else admit d grain silo) else (d, Elsewhere place.silo)

abbrev pub leave : PlainDirectory → GrainId → ℕ → Option Place → PlainDirectory × DirectoryReply
leave d grain permit None = (d, NotYours)
leave d grain permit (Some place) =
    if has_number permit place.permit
    then (record { placed = with_place d.placed grain (record { silo = place.silo; permit = None }); given = d.given; permits = d.permits }, Left)
    else (d, NotYours)

abbrev pub taken_out : PlainDirectory → GrainId → PlainDirectory
taken_out d grain = record { placed = without d.placed grain; given = d.given; permits = d.permits }

abbrev pub unplace : PlainDirectory → GrainId → Option Place → PlainDirectory × DirectoryReply
unplace d grain None = (d, NotPlaced)
unplace d grain (Some place) = if is_some place.permit then (d, Busy) else (taken_out d grain, Unplaced)

abbrev pub down : PlainDirectory → ℕ → Option GrainId → PlainDirectory × DirectoryReply
down d silo None = (d, NoneLeft)
down d silo (Some grain) = (taken_out d grain, Released grain (count_on silo (without d.placed grain)))

-- What an operation leaves, and its reply. Enter places a grain and gives a permit, Leave gives it back,
-- Unplace and Down take grains out.
abbrev pub step : PlainDirectory → DirectoryOp → PlainDirectory × DirectoryReply
step d (Enter grain silo) = enter d grain silo (place_in d.placed grain)
step d (Leave grain permit) = leave d grain permit (place_in d.placed grain)
step d (Unplace grain) = unplace d grain (place_in d.placed grain)
step d (Down silo) = down d silo (least_on silo d.placed)

-- an operation and its reply
pub record Entry : Type 0 where
  pub op : DirectoryOp
  pub reply : DirectoryReply

-- from d the entries, the oldest first, lead to e, each with the reply of its step
abbrev pub Leads : PlainDirectory → List Entry → PlainDirectory → Type 0
Leads d entries e = LeadsBy (λ (entry : Entry). entry.op) (λ (entry : Entry). entry.reply) step d entries e

-- the history, the oldest entry first, is legal, and d is what it leaves
abbrev pub Stands : ℕ → List Entry → PlainDirectory → Type 0
Stands permits history d = Leads (empty permits) history d

-- an Enter that places a grain; only this may want memory, and only where it gives a permit
abbrev pub takes_memory : PlainDirectory → DirectoryOp → Bool
takes_memory d (Enter grain silo) = not (is_some (place_in d.placed grain)) && nat_lt d.given d.permits
takes_memory d _ = false
