-- How a service settles, and how it publishes what its handlers have put into an outbox.
use Rattle.std.specs.Prelude.{◌≡◌, ◌≢◌, ◌⊎◌, ℕ, zero, suc, ◌+◌, List, [], ◌∷◌, length, Result, Ok, Err}
use Rattle.std.specs.declared.alloc.AllocError.{AllocError}
use Rattle.silo_loops.specs.Lines.{QueuePass}
use Rattle.step_core.specs.declared.figures.QueueFigures.{QueueFigures}
use Rattle.step_core.specs.Figures.{figures_of}
use Rattle.queue_callers.specs.Calls.{CallerLooks}
use Rattle.queue_callers.specs.declared.draining.Drained.{Drained}
use Rattle.queue_callers.specs.declared.draining.Drained.TheVariants as drained
use Rattle.queue_callers.specs.Draining.{EndsLooking}
use Rattle.streams.specs.declared.answers.SettleError.{SettleError}
use Rattle.streams.specs.declared.answers.SettleError.TheVariants as settle
use Rattle.streams.specs.declared.answers.StreamToken.{StreamToken}
use Rattle.streams.specs.declared.outbox.Message.{Message}
use Rattle.streams.specs.declared.outbox.Unpublished.{Unpublished}
use Rattle.streams.specs.Answers as read
use Rattle.streams.specs.Services.{Publishes}

-- so many queues were looked at, from the first on, and had accepted n batches together
abbrev pub Counts : ℕ → List QueuePass → ℕ → List QueuePass → Type 0
Counts zero old n new = (n ≡ 0) × (new ≡ old)
Counts (suc queues) old n new =
    (before : ℕ) × (mid : List QueuePass) × (kept : QueueFigures) × Counts queues old before mid × CallerLooks mid queues (λ p. kept ≡ figures_of p) new × (n ≡ before + kept.batches)

-- all were
abbrev pub CountsAll : List QueuePass → ℕ → List QueuePass → Type 0
CountsAll old n new = Counts (length old) old n new

-- In so many rounds at most, and nothing else was asked. In each the batches are counted, the queues are looked at until all
-- are quiet in one look, and the batches are counted again. After the first round in which they are as many, it has
-- settled. Or a drain ended otherwise, or there may be no round more.
abbrev pub Settles : ℕ → ℕ → List QueuePass → Result Unit SettleError → List QueuePass → Type 0
Settles zero looks old result new = (result ≡ Err settle.NotQuiet) × (new ≡ old)
Settles (suc rounds) looks old result new =
    (n : ℕ) × (before : List QueuePass) × CountsAll old n before
    × (((end : Result Drained AllocError) × (e : SettleError) × EndsLooking looks before end new × (read.settled end ≡ Err e) × (result ≡ Err e))
    ⊎ ((quiet : List QueuePass) × (m : ℕ) × (behind : List QueuePass) × EndsLooking looks before (Ok drained.Quiet) quiet × CountsAll quiet m behind
    × (((m ≡ n) × (result ≡ Ok tt) × (new ≡ behind)) ⊎ ((m ≢ n) × Settles rounds looks behind result new))))

-- so many messages were published, one after another, each as a batch of its own
abbrev pub PublishesSome : ℕ → List QueuePass → List QueuePass → Type 0
PublishesSome zero old new = new ≡ old
PublishesSome (suc n) old new =
    (mid : List QueuePass) × (m : Message) × (first : StreamToken) × PublishesSome n old mid × Publishes mid m.stream (m.payload ∷ []) (Ok first) new

-- messages were published in order, all of them, or up to one that was refused
abbrev pub PublishesFrom : List QueuePass → Result ℕ Unpublished → List QueuePass → Type 0
PublishesFrom old (Ok n) new = PublishesSome n old new
PublishesFrom old (Err u) new = (n : ℕ) × (mid : List QueuePass) × PublishesSome n old mid × Publishes mid u.message.stream (u.message.payload ∷ []) (Err u.why) new

-- In so many rounds at most: all settles, and messages of an outbox are published. After the first round in which there
-- was none, it has settled with the outbox. Or it didn't settle, a message was refused, or there may be no round more.
abbrev pub SettlesWith : ℕ → ℕ → List QueuePass → Result Unit SettleError → List QueuePass → Type 0
SettlesWith zero looks old result new = (result ≡ Err settle.NotQuiet) × (new ≡ old)
SettlesWith (suc rounds) looks old result new =
    ((e : SettleError) × Settles looks looks old (Err e) new × (result ≡ Err e))
    ⊎ ((quiet : List QueuePass) × Settles looks looks old (Ok tt) quiet
    × ((PublishesFrom quiet (Ok 0) new × (result ≡ Ok tt))
    ⊎ (((u : Unpublished) × PublishesFrom quiet (Err u) new × (result ≡ Err (settle.Unpublished u)))
    ⊎ ((n : ℕ) × (sent : List QueuePass) × PublishesFrom quiet (Ok n) sent × SettlesWith rounds looks sent result new))))
