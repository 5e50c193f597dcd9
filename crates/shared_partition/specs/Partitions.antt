-- What the calls of a shared partition tell.
use Rattle.std.specs.Prelude.{◌≡◌, ℕ, ◌≤◌, List, Some, map}
use Rattle.stream_laws.specs.Laws.{IsOneHistory}
use Rattle.stream_model.specs.declared.limits.Limits.{Limits}
use Rattle.stream_model.specs.declared.op.Op.{Op}
use Rattle.stream_model.specs.declared.plain.PlainPartition.{PlainPartition}
use Rattle.stream_model.specs.Replies.{Reply}
use Rattle.stream_model.specs.History as told
use Rattle.stream_model.specs.Positions.{empty}
use Rattle.stream_model.specs.Step.{Stands, step}
use Rattle.turnstile.specs.declared.history.Entry.{Entry}
use Rattle.turnstile.specs.declared.view.Start.{Start}
use Rattle.turnstile.specs.History.{replay}
use Rattle.turnstile.specs.Passes.{Origin, PassView}

-- the reply of a partition to an operation
abbrev pub replied : PlainPartition → Op → Reply
replied p op = (step p op).1

-- what an operation on a partition leaves
abbrev pub after : PlainPartition → Op → PlainPartition
after p op = (step p op).0

-- the turnstile began with an empty partition
abbrev pub BeganEmpty : Start PlainPartition → Type 0
BeganEmpty x = (blocks : ℕ) × (limits : Limits) × (1 ≤ blocks) × (x.state ≡ empty blocks limits)

-- the pass is of a turnstile that began with an empty partition
abbrev pub IsOfEmpty : PassView Op Reply PlainPartition → Type 0
IsOfEmpty p = (t : Origin PlainPartition) × (p.turnstile ≡ Some t) × BeganEmpty t.start

-- the calls, whichever pass made them
abbrev pub told_of : List (Entry Op Reply) → List told.Entry
told_of entries = map (λ e. record { op = e.op; reply = e.reply }) entries

-- The headline: the calls that a pass has seen are one history (`IsOneHistory`), whoever made them. In it
-- each subscription has handled a prefix of what it is owed: in the order of the queue, without a gap,
-- nothing twice and nothing after its unsubscribe. A commit has the number of exactly one turn before it, and
-- no number is committed twice. A start token is refused exactly where it is below the low token that was
-- told last.
abbrev pub TellsOneHistory : List (Entry Op Reply) → Type 0
TellsOneHistory entries = IsOneHistory (told_of entries)

-- The calls are a legal history of the partition that the turnstile began with, and their replay is what they
-- leave. So each law of every legal history holds of them.
abbrev pub LeavesLegal : Start PlainPartition → List (Entry Op Reply) → Type 0
LeavesLegal x entries =
    (blocks : ℕ) (limits : Limits) → x.state ≡ empty blocks limits
    → Stands blocks limits (told_of entries) (replay replied after x.state entries)
