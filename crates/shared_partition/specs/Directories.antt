-- What the calls of a shared directory tell.
use Rattle.std.specs.Prelude.{◌≡◌, ℕ, List, ◌∷◌, ◌++◌, Some, map}
use Rattle.stream_ident.specs.declared.ident.GrainId.{GrainId}
use Rattle.activation_directory.specs.declared.op.DirectoryOp.{DirectoryOp}
use Rattle.activation_directory.specs.declared.reply.DirectoryReply.{DirectoryReply}
use Rattle.activation_directory.specs.Laws.{IsFreed, entered}
use Rattle.activation_directory.specs.Plain.{PlainDirectory, empty}
use Rattle.activation_directory.specs.Step as plain
use Rattle.turnstile.specs.declared.history.Entry.{Entry}
use Rattle.turnstile.specs.declared.view.Start.{Start}
use Rattle.turnstile.specs.History.{replay}
use Rattle.turnstile.specs.Passes.{Origin, PassView}

-- the reply of a directory to an operation
abbrev pub replied : PlainDirectory → DirectoryOp → DirectoryReply
replied d op = (plain.step d op).1

-- what an operation on a directory leaves
abbrev pub after : PlainDirectory → DirectoryOp → PlainDirectory
after d op = (plain.step d op).0

-- the turnstile began with an empty directory
abbrev pub BeganEmpty : Start PlainDirectory → Type 0
BeganEmpty x = (permits : ℕ) × (x.state ≡ empty permits)

-- the pass is of a turnstile that began with an empty directory
abbrev pub IsOfEmpty : PassView DirectoryOp DirectoryReply PlainDirectory → Type 0
IsOfEmpty p = (t : Origin PlainDirectory) × (p.turnstile ≡ Some t) × BeganEmpty t.start

-- the calls, whichever pass made them
abbrev pub told_of : List (Entry DirectoryOp DirectoryReply) → List plain.Entry
told_of entries = map (λ e. record { op = e.op; reply = e.reply }) entries

-- In these calls one permit of a grain is out at a time: between two of them the first is given back, or the
-- grain is released from its silo.
abbrev pub TellsOnePermit : List (Entry DirectoryOp DirectoryReply) → Type 0
TellsOnePermit entries =
    (before between later : List plain.Entry) (grain : GrainId) (silo permit other_silo other_permit : ℕ)
    → told_of entries ≡ before ++ entered grain silo permit ∷ (between ++ entered grain other_silo other_permit ∷ later)
    → IsFreed between grain silo permit

-- The calls are a legal history of the directory that the turnstile began with, and their replay is what they
-- leave. So each law of every legal history holds of them.
abbrev pub LeavesLegal : Start PlainDirectory → List (Entry DirectoryOp DirectoryReply) → Type 0
LeavesLegal x entries =
    (permits : ℕ) → x.state ≡ empty permits → plain.Stands permits (told_of entries) (replay replied after x.state entries)
