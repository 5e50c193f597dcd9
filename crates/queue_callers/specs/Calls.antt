-- What a producer outside the silos carries, and what each of its calls says of that.
use Rattle.std.specs.Prelude.{◌≡◌, ℕ, ◌≤◌, ◌⊎◌, List, [], ◌∷◌, map, Option, Some, Result, Ok, Err, slice_get, slice_set}
use Rattle.std.specs.List.{AllByRecursion, AllZip}
use Rattle.std.specs.declared.alloc.AllocError.{AllocError}
use Rattle.stream_model.specs.declared.op.Op.{Op}
use Rattle.stream_model.specs.declared.plain.PlainPartition.{PlainPartition}
use Rattle.stream_model.specs.Replies.{Reply}
use Rattle.turnstile.specs.declared.turnstile.Refusal.{Refusal}
use Rattle.turnstile.specs.Calls.{Agree, HasOnlyMade, IsSplitOff, LooksBy, joined_pass, numbers_of}
use Rattle.turnstile.specs.History.{Foreign}
use Rattle.turnstile.specs.Passes.{Origin, PassView}
use Rattle.shared_partition.specs.Partitions.{LeavesLegal, TellsOneHistory, after, replied}
use Rattle.silo_loops.specs.Lines.{QueuePass}
use Rattle.silo_loops.specs.Passes.{CallsBy}

module _ {O R S : Type 0} where
  -- the turnstile of each pass
  abbrev pub turnstiles : List (PassView O R S) → List (Option (Origin S))
  turnstiles passes = map (λ (p : PassView O R S). p.turnstile) passes

  -- two passes of one turnstile
  abbrev pub AreAlike : PassView O R S → PassView O R S → Type 0
  AreAlike p q = q.turnstile ≡ p.turnstile

  -- the pass has made no call, and no pass was joined to it
  pub record IsUnused (p : PassView O R S) : Type 0 where
    pub alone : p.joined ≡ []
    pub silent : Foreign (numbers_of p) p.seen

  -- the pass is as before, save what was joined to it, and that it knows of as many passes or more
  abbrev pub HasOnlyJoined : PassView O R S → PassView O R S → Type 0
  HasOnlyJoined p q = (q ≡ record p { joined = q.joined; made = q.made }) × (p.made ≤ q.made)

  -- a pass was split off this one, and was joined to it again
  pub record HasTakenBack (p q : PassView O R S) : Type 0 where
    pub other : PassView O R S
    pub split : IsSplitOff p other
    pub joined : q ≡ joined_pass p other

  -- passes joined queue by queue, where there are both
  abbrev pub joined_passes : List (PassView O R S) → List (PassView O R S) → List (PassView O R S)
  joined_passes ps [] = ps
  joined_passes [] (q ∷ qs) = []
  joined_passes (p ∷ ps) (q ∷ qs) = joined_pass p q ∷ joined_passes ps qs

  -- a pass has taken in another
  pub record Joins (p q r : PassView O R S) : Type 0 where
    pub whole : r ≡ joined_pass p q
    pub agree : Agree p q r

  -- each pass has taken in the other at its queue, where there is one
  abbrev pub JoinsAll : List (PassView O R S) → List (PassView O R S) → List (PassView O R S) → Type 0
  JoinsAll ps [] rs = rs ≡ ps
  JoinsAll [] (q ∷ qs) rs = ⊥
  JoinsAll (p ∷ ps) (q ∷ qs) [] = ⊥
  JoinsAll (p ∷ ps) (q ∷ qs) (r ∷ rs) = Joins p q r × JoinsAll ps qs rs

  -- What passes are after one of them could not be split: that one knows of as many passes or more, each before it has
  -- taken back what was split off it, and those behind it are as before
  abbrev pub HaveTakenBack : List (PassView O R S) → List (PassView O R S) → Type 0
  HaveTakenBack [] kept = kept ≡ []
  HaveTakenBack (p ∷ ps) [] = ⊥
  HaveTakenBack (p ∷ ps) (q ∷ qs) = (HasOnlyMade p q × (qs ≡ ps)) ⊎ (HasTakenBack p q × HaveTakenBack ps qs)

-- One call by a pass at a queue. After a reply it has seen what it had seen, then calls of others, then this call;
-- after a refusal what it had seen, and calls of others. Of all that it has seen then the headline holds, and each
-- law of every legal history.
pub record QueueCalls (p : QueuePass) (op : Op) (result : Result Reply Refusal) (q : QueuePass) : Type 0 where
  pub calls : CallsBy replied after p op result q
  pub headline : TellsOneHistory q.seen
  pub stands : LeavesLegal calls.origin.start q.seen

-- One look by a pass at a queue: it has seen what it had seen, then calls of others, and made none itself. `Shows` holds
-- of the partition that all of this leaves, and of the calls the headline, and each law of every legal history.
pub record QueueLooks (p : QueuePass) (Shows : PlainPartition → Type 0) (q : QueuePass) : Type 0 where
  pub looks : LooksBy replied after p Shows q
  pub headline : TellsOneHistory q.seen
  pub stands : LeavesLegal looks.origin.start q.seen

-- one call by the pass of a caller at one queue; the other passes are as before
pub record CallerCalls (passes : List QueuePass) (queue : ℕ) (op : Op) (result : Result Reply Refusal) (new : List QueuePass) : Type 0 where
  pub was : QueuePass
  pub is : QueuePass
  pub had : slice_get passes queue ≡ Some was
  pub whole : new ≡ slice_set passes queue is
  pub calls : QueueCalls was op result is

-- one look by the pass of a caller at one queue; the other passes are as before
pub record CallerLooks (passes : List QueuePass) (queue : ℕ) (Shows : PlainPartition → Type 0) (new : List QueuePass) : Type 0 where
  pub was : QueuePass
  pub is : QueuePass
  pub had : slice_get passes queue ≡ Some was
  pub whole : new ≡ slice_set passes queue is
  pub looks : QueueLooks was Shows is

-- beside each pass stands one that was split off it, and has made no call; the passes are as before
pub record SplitsOff (old new kept : List QueuePass) : Type 0 where
  pub same : kept ≡ old
  pub off : AllZip IsSplitOff old new
  pub unused : AllByRecursion IsUnused new
  pub beside : turnstiles new ≡ turnstiles old

-- nothing new: the passes are as before, save what they took back
pub record TakesBack (old kept : List QueuePass) : Type 0 where
  pub each : AllZip HasOnlyJoined old kept
  pub back : HaveTakenBack old kept
  pub beside : turnstiles kept ≡ turnstiles old

-- a new pass at each queue, or none
abbrev pub CallerSplits : List QueuePass → Result (List QueuePass) AllocError → List QueuePass → Type 0
CallerSplits old (Ok new) kept = SplitsOff old new kept
CallerSplits old (Err e) kept = TakesBack old kept
