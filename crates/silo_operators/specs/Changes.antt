-- What the calls of a cluster's own passes leave when its silos change.
use Rattle.std.specs.Prelude.{◌≡◌, ◌≢◌, ◌⊎◌, ℕ, ◌≤◌, Bool, true, false, List, [], ◌∷◌, ◌++◌, length, drop, Option, Some, None, Result, Ok, Err, slice_get, slice_index}
use Rattle.std.specs.List.{AllZip}
use Rattle.stream_ident.specs.declared.ident.GrainId.{GrainId}
use Rattle.stream_ident.specs.declared.token.Token.{Token}
use Rattle.stream_model.specs.declared.op.Op.{Op}
use Rattle.stream_model.specs.declared.op.Op.TheVariants as op
use Rattle.stream_model.specs.Replies.{Reply}
use Rattle.stream_model.specs.declared.reply.Reply.TheVariants as reply
use Rattle.activation_directory.specs.declared.op.DirectoryOp.{DirectoryOp}
use Rattle.activation_directory.specs.declared.op.DirectoryOp.TheVariants as asked
use Rattle.activation_directory.specs.declared.reply.DirectoryReply.{DirectoryReply}
use Rattle.activation_directory.specs.declared.reply.DirectoryReply.TheVariants as directory
use Rattle.turnstile.specs.declared.history.Entry.{Entry}
use Rattle.turnstile.specs.declared.turnstile.Refusal.{Refusal}
use Rattle.turnstile.specs.declared.turnstile.Refusal.TheVariants as refusal
use Rattle.turnstile.specs.Calls.{HasOnlySeen, IsFull}
use Rattle.turnstile.specs.Closing.{HasSome}
use Rattle.turnstile.specs.History.{entry}
use Rattle.turnstile.specs.Passes.{Origin, PassView}
use Rattle.shared_partition.specs.Directories as places
use Rattle.silo_loops.specs.Lines.{DirectoryPass, LineView}
use Rattle.silo_loops.specs.Passes.{CallsBy, OwnsNone}
use Rattle.silo_operators.specs.declared.halt.Halt.{Halt}
use Rattle.silo_operators.specs.declared.halt.Halt.TheVariants as halt
use Rattle.silo_operators.specs.declared.leaving.Release.{Release}
use Rattle.silo_operators.specs.declared.leaving.Release.TheVariants as release

-- the generation under which the agent on another silo has a queue that was moved
abbrev pub moved_of : Reply → Option ℕ
moved_of (reply.Moved generation low) = Some generation
moved_of _ = None

-- past a mark the pass made such a call
abbrev pub HasMade : {O R S : Type 0} → ℕ → PassView O R S → (O → R → Type 0) → Type 0
HasMade {O} {R} mark p IsSuch = HasSome (λ (e : Entry O R). (e.number ≡ p.number) × IsSuch e.op e.reply) (drop mark p.seen)

-- Past its mark the pass has made a call of its own that the test picks, and the last one of these is such.
pub record HasMadeLast {O R S : Type 0} (test : O → Bool) (mark : ℕ) (p : PassView O R S) (IsSuch : O → R → Type 0) : Type 0 where
  pub before : List (Entry O R)
  pub asked : O
  pub answered : R
  pub later : List (Entry O R)
  pub whole : p.seen ≡ (before ++ entry p.number asked answered ∷ []) ++ later
  pub past : mark ≤ length before
  pub such : IsSuch asked answered
  pub none : OwnsNone test (p.number ∷ []) later

-- since the line was so the other, later one has made such a call
abbrev pub HasSince : LineView → LineView → (Op → Reply → Type 0) → Type 0
HasSince was is IsSuch = HasMade (length was.pass.seen) is.pass IsSuch

-- why a change of silos is broken off where a call is refused
abbrev pub halt_of : Refusal → Halt
halt_of refusal.HistoryFull = halt.Limit
halt_of refusal.Memory = halt.Memory

-- All that the pass has seen is a full history where the change was broken off at a limit. It isn't full where the call
-- failed to allocate.
abbrev pub HasFound : {O R S : Type 0} → Halt → PassView O R S → Type 0
HasFound {S = S} why p = (e : Refusal) × (why ≡ halt_of e) × ((t : Origin S) × (p.turnstile ≡ Some t) × IsFull e (length p.seen) t.start.limit)

-- the queue went to an agent on this silo
abbrev pub IsMove : ℕ → Op → Reply → Type 0
IsMove silo o r = (o ≡ op.Move silo) × ((generation : ℕ) × (low : Token) × (r ≡ reply.Moved generation low))

-- the operation moves the queue
abbrev pub is_move : Op → Bool
is_move (op.Move silo) = true
is_move _ = false

-- the last Move of the queue since is to this silo
abbrev pub HasMovedLast : ℕ → LineView → LineView → Type 0
HasMovedLast silo was is = HasMadeLast is_move (length was.pass.seen) is.pass (IsMove silo)

-- the queue was moved nowhere since
abbrev pub HasMovedNowhere : LineView → LineView → Type 0
HasMovedNowhere was is = OwnsNone is_move (is.pass.number ∷ []) (drop (length was.pass.seen) is.pass.seen)

-- the queue has as many rises as it may have
abbrev pub IsSpentMove : ℕ → Op → Reply → Type 0
IsSpentMove silo o r = (o ≡ op.Move silo) × (r ≡ reply.Spent)

-- the grain was deactivated, or wasn't active
abbrev pub IsDeactivation : GrainId → Op → Reply → Type 0
IsDeactivation grain o r = o ≡ op.Deactivate grain

-- the directory took the grain from the silo
abbrev pub IsRelease : ℕ → GrainId → DirectoryOp → DirectoryReply → Type 0
IsRelease silo grain o r = (o ≡ asked.Down silo) × ((left : ℕ) × (r ≡ directory.Released grain left))

-- the directory answers that the silo has no grain
abbrev pub IsNoneLeft : ℕ → DirectoryOp → DirectoryReply → Type 0
IsNoneLeft silo o r = (o ≡ asked.Down silo) × (r ≡ directory.NoneLeft)

-- what one call for a grain of the silo left
abbrev pub Releases : ℕ → DirectoryPass → Result Release Halt → DirectoryPass → Type 0
Releases silo d (Ok (release.Grain grain)) e = (left : ℕ) × CallsBy places.replied places.after d (asked.Down silo) (Ok (directory.Released grain left)) e
Releases silo d (Ok release.NoneLeft) e = CallsBy places.replied places.after d (asked.Down silo) (Ok directory.NoneLeft) e
Releases silo d (Err why) e = (refused : Refusal) × (why ≡ halt_of refused) × CallsBy places.replied places.after d (asked.Down silo) (Err refused) e

-- R holds of the line of each queue before and after
abbrev pub AtEachQueue : List LineView → List LineView → (ℕ → LineView → LineView → Type 0) → Type 0
AtEachQueue old new R = (queue : ℕ) (was is : LineView) → slice_get old queue ≡ Some was → slice_get new queue ≡ Some is → R queue was is

-- each queue that has another silo than before was moved there, and nowhere after that
abbrev pub HaveMoved : List LineView → List LineView → List ℕ → List ℕ → Type 0
HaveMoved old new before now =
    AtEachQueue old new (λ queue was is. slice_index now queue ≢ slice_index before queue → HasMovedLast (slice_index now queue) was is)

-- queues that keep their silo were moved nowhere
abbrev pub HaveStayed : List LineView → List LineView → List ℕ → List ℕ → Type 0
HaveStayed old new before now = AtEachQueue old new (λ queue was is. slice_index now queue ≡ slice_index before queue → HasMovedNowhere was is)

-- no queue was moved
abbrev pub HaveMovedNowhere : List LineView → List LineView → Type 0
HaveMovedNowhere old new = AtEachQueue old new (λ queue was is. HasMovedNowhere was is)

-- a queue that had the first silo is to have the second one
abbrev pub IsAtSilo : ℕ → ℕ → LineView → LineView → Type 0
IsAtSilo before now was is = (now ≢ before → HasMovedLast now was is) × (now ≡ before → HasMovedNowhere was is)

-- the line is as before, save what its pass has seen: no pass was joined to that
abbrev pub LineHasOnlySeen : LineView → LineView → Type 0
LineHasOnlySeen l m = (m.mark ≡ l.mark) × HasOnlySeen l.pass m.pass

-- the passes of lines are as before, save what they have seen
abbrev pub HaveOnlySeen : List LineView → List LineView → Type 0
HaveOnlySeen old new = AllZip LineHasOnlySeen old new

-- the grain was deactivated at each queue
abbrev pub IsDeactivated : List LineView → List LineView → GrainId → Type 0
IsDeactivated old new grain = AtEachQueue old new (λ queue was is. HasSince was is (IsDeactivation grain))

-- each grain that the directory took from the silo since was deactivated at each queue
abbrev pub AreDeactivated : ℕ → DirectoryPass → DirectoryPass → List LineView → List LineView → Type 0
AreDeactivated silo d e old new = (grain : GrainId) → HasMade (length d.seen) e (IsRelease silo grain) → IsDeactivated old new grain

-- Why the line of a queue wasn't moved to the silo: its pass has found the history so, or the Move was answered Spent.
abbrev pub IsUnmoved : Halt → ℕ → LineView → LineView → Type 0
IsUnmoved why silo was is = (HasSince was is (IsMove silo) → ⊥) × (HasFound why is.pass ⊎ ((why ≡ halt.Limit) × HasSince was is (IsSpentMove silo)))

-- a queue that is to have another silo wasn't moved there
pub record StaysBehind (why : Halt) (old new : List LineView) (before now : List ℕ) : Type 0 where
  pub queue : ℕ
  pub was : LineView
  pub is : LineView
  pub had : slice_get old queue ≡ Some was
  pub has : slice_get new queue ≡ Some is
  pub other : slice_index now queue ≢ slice_index before queue
  pub unmoved : IsUnmoved why (slice_index now queue) was is

-- the pass of one of these lines has found its history so
abbrev pub HasFoundOne : Halt → List LineView → Type 0
HasFoundOne why lines = (queue : ℕ) × (is : LineView) × (slice_get lines queue ≡ Some is) × HasFound why is.pass

-- Why grains stayed on a silo: the directory wasn't found without one, and it or a queue has refused a call.
abbrev pub HoldsGrains : Halt → ℕ → DirectoryPass → DirectoryPass → List LineView → Type 0
HoldsGrains why silo d e lines = (HasMade (length d.seen) e (IsNoneLeft silo) → ⊥) × (HasFound why e ⊎ HasFoundOne why lines)
