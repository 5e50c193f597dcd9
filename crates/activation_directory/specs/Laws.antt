-- What holds of every legal history, from the definitions alone.
use Rattle.std.specs.Prelude.{◌≡◌, ◌⊎◌, ℕ, suc, ◌<◌, ◌≤◌, Bool, true, false, List, ◌∷◌, ◌++◌, Contains, filter, length}
use Rattle.stream_ident.specs.declared.ident.GrainId.{GrainId}
use Rattle.activation_directory.specs.declared.op.DirectoryOp.TheVariants.{Enter, Leave, Down}
use Rattle.activation_directory.specs.declared.reply.DirectoryReply.{DirectoryReply}
use Rattle.activation_directory.specs.declared.reply.DirectoryReply.TheVariants.{Entered, Spent, Left, Released}
use Rattle.activation_directory.specs.Plain.{PlainDirectory}
use Rattle.activation_directory.specs.Step.{Entry, Stands}

-- a silo has got the permit of a grain
abbrev pub entered : GrainId → ℕ → ℕ → Entry
entered grain silo permit = record { op = Enter grain silo; reply = Entered permit }

-- it was refused the permit, since no more may be given
abbrev pub refused : GrainId → ℕ → Entry
refused grain silo = record { op = Enter grain silo; reply = Spent }

-- it has given it back
abbrev pub left : GrainId → ℕ → Entry
left grain permit = record { op = Leave grain permit; reply = Left }

-- the grain was taken from a silo that is gone
abbrev pub released : GrainId → ℕ → ℕ → Entry
released grain silo count = record { op = Down silo; reply = Released grain count }

-- among the entries the silo gives the permit of the grain back, or it is gone and the grain is taken
-- from it
abbrev pub IsFreed : List Entry → GrainId → ℕ → ℕ → Type 0
IsFreed entries grain silo permit = Contains entries (left grain permit) ⊎ ((count : ℕ) × Contains entries (released grain silo count))

-- Between two permits of a grain, the first is given back or the grain is released from its silo.
abbrev pub OnePermitAtATime : Type 0
OnePermitAtATime =
    (permits : ℕ) (before between later : List Entry) (d : PlainDirectory) (grain : GrainId) (silo permit other_silo other_permit : ℕ)
    → Stands permits (before ++ entered grain silo permit ∷ (between ++ entered grain other_silo other_permit ∷ later)) d
    → IsFreed between grain silo permit

-- No permit is given twice: each is greater than those before it, whichever grains they are of.
abbrev pub PermitsRise : Type 0
PermitsRise =
    (permits : ℕ) (before between later : List Entry) (d : PlainDirectory) (grain other : GrainId) (silo permit other_silo other_permit : ℕ)
    → Stands permits (before ++ entered grain silo permit ∷ (between ++ entered other other_silo other_permit ∷ later)) d
    → permit < other_permit

abbrev pub is_permit : DirectoryReply → Bool
is_permit (Entered permit) = true
is_permit _ = false

-- how many permits the entries give
abbrev pub permits_given : List Entry → ℕ
permits_given entries = length (filter (λ (x : Entry). is_permit x.reply) entries)

-- No more permits are given than may be.
abbrev pub PermitsAreLimited : Type 0
PermitsAreLimited = (permits : ℕ) (history : List Entry) (d : PlainDirectory) → Stands permits history d → permits_given history ≤ permits

-- A permit is one more than as many as were given before it, and at most as many as may be given.
abbrev pub PermitsAreCounted : Type 0
PermitsAreCounted =
    (permits : ℕ) (before later : List Entry) (d : PlainDirectory) (grain : GrainId) (silo permit : ℕ)
    → Stands permits (before ++ entered grain silo permit ∷ later) d
    → (permit ≡ suc (permits_given before)) × (permit ≤ permits)

-- An Enter is refused as spent only where as many permits were given as may be.
abbrev pub SpentIsAll : Type 0
SpentIsAll =
    (permits : ℕ) (before later : List Entry) (d : PlainDirectory) (grain : GrainId) (silo : ℕ)
    → Stands permits (before ++ refused grain silo ∷ later) d
    → permits_given before ≡ permits
