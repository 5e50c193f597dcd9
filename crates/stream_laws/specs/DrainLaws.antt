-- What holds of a drain after every legal history.
use Rattle.std.specs.Prelude.{◌≡◌, ◌≢◌, ℕ, ◌+◌, ◌-◌, ◌≤◌, List, [], ◌∷◌, ◌++◌, length, Some, None, if◌then◌else◌}
use Rattle.stream_ident.specs.declared.ident.SubName.{SubName}
use Rattle.stream_model.specs.declared.drain_end.DrainEnd.TheVariants as ending
use Rattle.stream_model.specs.declared.limits.Limits.{Limits}
use Rattle.stream_model.specs.declared.plain.PlainPartition.{PlainPartition}
use Rattle.stream_model.specs.declared.plain.Subscription.{Subscription}
use Rattle.stream_model.specs.declared.reply.Reply.TheVariants.{IsQuiet}
use Rattle.stream_model.specs.Draining.{drain}
use Rattle.stream_model.specs.History.{Entry, handled_events, owed_events}
use Rattle.stream_model.specs.Looks.{quiet}
use Rattle.stream_model.specs.Step.{Stands}

-- P holds of each legal history and of the partition that it leaves, with one block at least
abbrev pub AlwaysWithBlocks : (List Entry → PlainPartition → Type 0) → Type 0
AlwaysWithBlocks P =
    (blocks : ℕ) (limits : Limits) (history : List Entry) (p : PlainPartition) → 1 ≤ blocks → Stands blocks limits history p → P history p

-- A drain ends, and meets no unforeseen reply.
abbrev pub DrainEnds : Type 0
DrainEnds = AlwaysWithBlocks (λ history p. (drain p).1 ≢ None)

-- What a drain leaves stands for the history with its operations appended.
abbrev pub DrainStands : Type 0
DrainStands =
    (blocks : ℕ) (limits : Limits) (history : List Entry) (p : PlainPartition) → Stands blocks limits history p
    → Stands blocks limits (history ++ (drain p).0.entries) (drain p).0.now

-- After `Drained` the partition is quiet.
abbrev pub DrainedIsQuiet : Type 0
DrainedIsQuiet = AlwaysWithBlocks (λ history p. (turns : ℕ) → (drain p).1 ≡ Some (ending.Drained turns) → quiet (drain p).0.now ≡ IsQuiet)

-- how many events a subscription is owed and hasn't handled
abbrev pub left : List Entry → SubName → ℕ
left history s = length (owed_events history s) - length (handled_events history s)

abbrev pub sum_open : (SubName → ℕ) → List (SubName × Subscription) → ℕ
sum_open f [] = 0
sum_open f (entry ∷ entries) = (if entry.1.is_open then f entry.0 else 0) + sum_open f entries

-- After `Drained` there was a turn for each event that open subscriptions were owed and hadn't handled, those
-- subscriptions that the drain itself makes among them.
abbrev pub DrainedTurns : Type 0
DrainedTurns =
    AlwaysWithBlocks (λ history p. (turns : ℕ) → (drain p).1 ≡ Some (ending.Drained turns)
    → turns ≡ sum_open (left history) (drain p).0.now.subs)
