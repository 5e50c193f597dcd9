-- What is asked while it is waited until all queues are quiet, and how that ends.
use Rattle.std.specs.Prelude.{◌≡◌, ◌⊎◌, ℕ, zero, suc, ◌<◌, ◌≤◌, true, List, ◌++◌, Contains, Result, Ok, Err}
use Rattle.std.specs.List.{AllByRecursion}
use Rattle.std.specs.declared.alloc.AllocError.{AllocError}
use Rattle.stream_model.specs.declared.op.Op.{Op}
use Rattle.stream_model.specs.declared.op.Op.TheVariants as ops
use Rattle.stream_model.specs.declared.reply.Pending.{Pending}
use Rattle.stream_model.specs.Replies.{Reply}
use Rattle.stream_model.specs.Producers.{is_producer}
use Rattle.turnstile.specs.declared.history.Entry.{Entry}
use Rattle.turnstile.specs.declared.turnstile.Refusal.{Refusal}
use Rattle.turnstile.specs.declared.turnstile.Refusal.TheVariants.{HistoryFull, Memory}
use Rattle.turnstile.specs.Calls.{HasOnlySeen, numbers_of}
use Rattle.silo_loops.specs.Lines.{QueuePass}
use Rattle.queue_callers.specs.declared.asking.Quiet.{Quiet}
use Rattle.queue_callers.specs.declared.asking.Quiet.TheVariants.{All, NotQuiet}
use Rattle.queue_callers.specs.Asking.{AsksQuiet}
use Rattle.queue_callers.specs.declared.draining.Drained.{Drained}
use Rattle.queue_callers.specs.declared.draining.Drained.TheVariants as drained
use Rattle.silo_loops.specs.Passes.{OwnsNone}

-- what a producer asks for: an operation of producers, or whether the queue is quiet
abbrev pub IsForProducers : Op → Type 0
IsForProducers op = (is_producer op ≡ true) ⊎ (op ≡ ops.Quiet)

-- each call that has one of these numbers asks for that
abbrev pub AsksForProducers : List ℕ → List (Entry Op Reply) → Type 0
AsksForProducers numbers es = AllByRecursion (λ (e : Entry Op Reply). Contains numbers e.number → IsForProducers e.op) es

-- A pass has seen as much or more, and its own calls since, and those of passes joined to it, are a
-- producer's or ask whether the queue is quiet.
pub record HasGoneOn (p q : QueuePass) : Type 0 where
  pub only : HasOnlySeen p q
  pub more : List (Entry Op Reply)
  pub seen : q.seen ≡ p.seen ++ more
  pub own : AsksForProducers (numbers_of p) more

-- A pass has seen as much or more, and none of its own calls since, nor of those of passes joined to it, is a
-- producer's.
pub record ProducesNone (p q : QueuePass) : Type 0 where
  pub on : HasGoneOn p q
  pub none : OwnsNone is_producer (numbers_of p) on.more

-- so many looks were made, one after another and nothing else, and in each a queue wasn't quiet
abbrev pub LooksInVain : ℕ → List QueuePass → List QueuePass → Type 0
LooksInVain zero old new = new ≡ old
LooksInVain (suc looks) old new = (between : List QueuePass) × LooksInVain looks old between × ((queue : ℕ) × (why : Pending) × AsksQuiet between (Ok (NotQuiet queue why)) new)

-- some were, and no more than so many
abbrev pub LooksAWhile : ℕ → List QueuePass → List QueuePass → Type 0
LooksAWhile looks old new = (made : ℕ) × (1 ≤ made) × (made ≤ looks) × LooksInVain made old new

-- looks in vain, fewer than so many, and then one look more, of which this came
pub record Looks (looks : ℕ) (result : Result Quiet Refusal) (old new : List QueuePass) : Type 0 where
  pub made : ℕ
  pub within : made < looks
  pub before : List QueuePass
  pub vain : LooksInVain made old before
  pub asks : AsksQuiet before result new

-- each queue was quiet in the last look
abbrev pub LooksQuiet : ℕ → List QueuePass → List QueuePass → Type 0
LooksQuiet looks old new = Looks looks (Ok All) old new

-- how a drain ends, by its looks, of which it may have so many
abbrev pub EndsLooking : ℕ → List QueuePass → Result Drained AllocError → List QueuePass → Type 0
EndsLooking looks old (Ok drained.Quiet) new = LooksQuiet looks old new
EndsLooking looks old (Ok drained.NotQuiet) new = LooksInVain looks old new
EndsLooking looks old (Ok drained.Ended) new = LooksAWhile looks old new
EndsLooking looks old (Ok drained.Limit) new = Looks looks (Err HistoryFull) old new
EndsLooking looks old (Err e) new = Looks looks (Err Memory) old new
