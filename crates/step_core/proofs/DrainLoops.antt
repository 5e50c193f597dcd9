-- The loops of a drain: what is left to do from here, and that one round more leaves the same.
use Rattle.step_core.proofs.Prelude.{◌≡◌, ◌∙◌, ap, refl, subst, ℕ, zero, suc, Bool, true, false, Option, Some, None, Ok, GrainId, SubName, Astray, Progress, ask, least_waiting, deliver_up_to, Deliver, Pull, PlainPartition, Err}
use Rattle.stream_model.specs.Draining as draining
use Rattle.stream_model.specs.Draining.{after_deliver, after_pull, take_turn, take_turns}
use Rattle.step_core.specs.declared.draining.Stop.{Stop}
use Rattle.step_core.specs.DrainPhases.{Asks, Ends, deliver_told, halted, pull_told}
use Rattle.step_core.proofs.DrainReplies.{deliver-told, more_delivers, more_rounds, pull-told}
use Rattle.step_core.proofs.DrainSteps.{asked-done, asked-halted, asked-more, ends-done, ends-halted, ends-then}

-- what is done from here on, as the rest says, makes all that was done from the start on as the whole says
abbrev pub Suffices : PlainPartition → PlainPartition → Progress → Progress → Type 0
Suffices start here rest whole = (new : PlainPartition) (end : Option (Option draining.Stop)) → Ends here new end rest → Ends start new end whole

-- ---- deliveries

pub deliver-more : (n : ℕ) (s : SubName) (g : GrainId) (old mid new : PlainPartition) (end : Option (Option draining.Stop)) (goes_on : Bool) → goes_on ≡ true → Asks old mid (Ok goes_on) (Deliver old.generation s) deliver_told → Ends mid new end (more_delivers n s g mid) → Ends old new end (deliver_up_to n s g old)
deliver-more n s g old mid new end goes_on is asked rest =
    asked-more old mid new end (Deliver old.generation s) deliver_told (more_delivers n s g) (after_deliver n s g) goes_on (deliver-told n s g) is asked rest

pub deliver-done : (n : ℕ) (s : SubName) (g : GrainId) (old new : PlainPartition) (goes_on : Bool) → goes_on ≡ false → Asks old new (Ok goes_on) (Deliver old.generation s) deliver_told → Ends old new (Some None) (deliver_up_to n s g old)
deliver-done n s g old new goes_on is asked =
    asked-done old new (Deliver old.generation s) deliver_told (more_delivers n s g) (after_deliver n s g) goes_on (deliver-told n s g) is asked

pub deliver-halted : (n : ℕ) (s : SubName) (g : GrainId) (old new : PlainPartition) (why : Stop) → Asks old new (Err why) (Deliver old.generation s) deliver_told → Ends old new (halted why) (deliver_up_to n s g old)
deliver-halted n s g old new why asked =
    asked-halted old new why (Deliver old.generation s) deliver_told (more_delivers n s g) (after_deliver n s g) (deliver-told n s g) asked

-- ---- pulls

pub pull-more : (n : ℕ) (old mid new : PlainPartition) (end : Option (Option draining.Stop)) (goes_on : Bool) → goes_on ≡ true → Asks old mid (Ok goes_on) (Pull old.generation 32) pull_told → Ends mid new end (more_rounds n mid) → Ends old new end (ask old (Pull old.generation 32) (after_pull n))
pull-more n old mid new end goes_on is asked rest = asked-more old mid new end (Pull old.generation 32) pull_told (more_rounds n) (after_pull n) goes_on (pull-told n) is asked rest

pub pull-done : (n : ℕ) (old new : PlainPartition) (goes_on : Bool) → goes_on ≡ false → Asks old new (Ok goes_on) (Pull old.generation 32) pull_told → Ends old new (Some None) (ask old (Pull old.generation 32) (after_pull n))
pull-done n old new goes_on is asked = asked-done old new (Pull old.generation 32) pull_told (more_rounds n) (after_pull n) goes_on (pull-told n) is asked

pub pull-halted : (n : ℕ) (old new : PlainPartition) (why : Stop) → Asks old new (Err why) (Pull old.generation 32) pull_told → Ends old new (halted why) (ask old (Pull old.generation 32) (after_pull n))
pull-halted n old new why asked = asked-halted old new why (Pull old.generation 32) pull_told (more_rounds n) (after_pull n) (pull-told n) asked

-- ---- turns

-- turns, at most so many, while something waits
abbrev pub turns_up_to : ℕ → PlainPartition → Progress
turns_up_to n p = take_turns n p (least_waiting p)

none-waits : (n : ℕ) (p : PlainPartition) → draining.done p ≡ take_turns n p None
unfolding take_turns
none-waits zero p = refl
none-waits (suc n) p = refl

-- nothing waits
pub turns-done : (n : ℕ) (p : PlainPartition) → None ≡ least_waiting p → Ends p p (Some None) (turns_up_to n p)
turns-done n p none = ends-done p (turns_up_to n p) None (none-waits n p ∙ ap (take_turns n p) none)

-- something waits, and no turn is left
pub turns-astray : (p : PlainPartition) (g : GrainId) → Some g ≡ least_waiting p → Ends p p (Some (Some Astray)) (turns_up_to 0 p)
unfolding take_turns
turns-astray p g waits = ends-done p (turns_up_to 0 p) (Some Astray) (ap (take_turns 0 p) waits)

-- a turn, and what follows it
pub turns-more : (n : ℕ) (g : GrainId) (old mid new : PlainPartition) (end : Option (Option draining.Stop)) → Some g ≡ least_waiting old → Ends old mid (Some None) (take_turn g old) → Ends mid new end (turns_up_to n mid) → Ends old new end (turns_up_to (suc n) old)
unfolding take_turns
turns-more n g old mid new end waits turned rest =
    subst (λ found. Ends old new end (take_turns (suc n) old found)) waits (ends-then old mid new end (take_turn g old) (turns_up_to n) turned rest)

pub turns-halted : (n : ℕ) (g : GrainId) (old new : PlainPartition) (why : Stop) → Some g ≡ least_waiting old → Ends old new (halted why) (take_turn g old) → Ends old new (halted why) (turns_up_to (suc n) old)
unfolding take_turns
turns-halted n g old new why waits turned =
    subst (λ found. Ends old new (halted why) (take_turns (suc n) old found)) waits (ends-halted old new why (take_turn g old) (turns_up_to n) turned)
