use Rattle.step_core.proofs.Prelude.{◌≡◌, ◌-◌, Some, None, ap, refl, sym, subst, arith, ◌∙◌, AtSpent, AtTooMany, Astray, commits, PlainPartition}
use Rattle.stream_model.specs.declared.drain_end.DrainEnd.TheVariants as ending
use Rattle.stream_model.specs.Draining.{drain_all}
use Rattle.stream_laws.proofs.DrainTurns.{turns-since}
use Rattle.step_core.specs.declared.draining.Stop.{Stop}
use Rattle.step_core.specs.declared.draining.Stop.TheVariants as stop
use Rattle.step_core.specs.DrainPhases.{Ends, halted}
use Rattle.step_core.proofs.DrainRounds.{drains-ended, drains-in-part, drains-stuck, drains-wanting, least_running, never-astray}
use Rattle.step_core.proofs.FinishingLemmas.{finishes}
use Rattle.step_core.proofs.partition.Partition.drain.Goals as goal

pub returns-in-Some-clause-drains : goal.returns-in-Some-clause-drains
returns-in-Some-clause-drains c = drains-stuck c.args.self.now c.in-Some.grain (sym c.in-Some.is ∙ c.least_running.ensures)

pub overflow_sub-result : goal.overflow_sub-result
overflow_sub-result c =
    omega (arith, turns-since c.args.self.now c.drain_all.new.partition c.in-Ok.ensures.0, c.turns.ensures.turns, c.turns-turns.ensures.turns)

pub returns-in-Ok-clause-drains : goal.returns-in-Ok-clause-drains
returns-in-Ok-clause-drains c =
    let p = c.args.self.now in
    let new = c.drain_all.new.partition in
    let free : None ≡ least_running p = sym c.in_default.is ∙ c.least_running.ensures in
    let turns = c.turns.result - c.turns-turns.result in
    let count : commits (drain_all p).entries ≡ turns = omega (arith, turns-since p new c.in-Ok.ensures.0, c.turns.ensures.turns, c.turns-turns.ensures.turns) in
    drains-ended p new None (ending.Drained turns) free c.in-Ok.ensures (ap (λ turns. Some (ending.Drained turns)) count)

-- why the rounds stopped
stopped : (p new : PlainPartition) (given why : Stop) → given ≡ why → Ends p new (halted given) (drain_all p) → Ends p new (halted why) (drain_all p)
stopped p new given why is ends = subst (λ why. Ends p new (halted why) (drain_all p)) is ends

pub returns-in-Err-TooMany-clause-drains : goal.returns-in-Err-TooMany-clause-drains
returns-in-Err-TooMany-clause-drains c =
    drains-ended c.args.self.now c.drain_all.new.partition (Some AtTooMany) ending.TooMany (sym c.in_default.is ∙ c.least_running.ensures)
    (stopped c.args.self.now c.drain_all.new.partition _ stop.TooMany c.in-Err-TooMany.field-0-is c.in-Err-TooMany.ensures) refl

pub returns-in-Err-Spent-clause-drains : goal.returns-in-Err-Spent-clause-drains
returns-in-Err-Spent-clause-drains c =
    drains-ended c.args.self.now c.drain_all.new.partition (Some AtSpent) ending.Spent (sym c.in_default.is ∙ c.least_running.ensures)
    (stopped c.args.self.now c.drain_all.new.partition _ stop.Spent c.in-Err-Spent.field-0-is c.in-Err-Spent.ensures) refl

pub unreachable-requires : goal.unreachable-requires
unreachable-requires c =
    never-astray c.args.self.now c.drain_all.new.partition c.turns-turns.ensures.reached (sym c.in_default.is ∙ c.least_running.ensures)
    (stopped c.args.self.now c.drain_all.new.partition _ stop.Astray c.in-Err-Astray.field-0-is c.in-Err-Astray.ensures)

pub returns-in-Err-Memory-clause-drains : goal.returns-in-Err-Memory-clause-drains
returns-in-Err-Memory-clause-drains c =
    drains-wanting c.args.self.now c.drain_all.new.partition c.in-Err-Memory.wanting (sym c.in_default.is ∙ c.least_running.ensures)
    (stopped c.args.self.now c.drain_all.new.partition _ (stop.Memory c.in-Err-Memory.wanting) c.in-Err-Memory.field-0-is c.in-Err-Memory.ensures)

pub returns-in-Err-Memory-clause-memory : goal.returns-in-Err-Memory-clause-memory
returns-in-Err-Memory-clause-memory c =
    drains-in-part c.args.self.now c.drain_all.new.partition (sym c.in_default.is ∙ c.least_running.ensures)
    (stopped c.args.self.now c.drain_all.new.partition _ (stop.Memory c.in-Err-Memory.wanting) c.in-Err-Memory.field-0-is c.in-Err-Memory.ensures)

pub returns-in-Err-Memory-clause-idle : goal.returns-in-Err-Memory-clause-idle
returns-in-Err-Memory-clause-idle c = sym (sym c.in_default.is ∙ c.least_running.ensures)

pub returns-in-Ok-clause-finishes : goal.returns-in-Ok-clause-finishes
returns-in-Ok-clause-finishes c =
    finishes c.args.self.now c.drain_all.new.partition (c.turns.result - c.turns-turns.result) c.turns-turns.ensures.reached (returns-in-Ok-clause-drains c)
