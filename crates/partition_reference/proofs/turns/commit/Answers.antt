use Rattle.partition_reference.proofs.Prelude.{◌≡◌, true, sym, ap, subst, ◌∙◌, OnErr, Performs, grain_at-is, grain_at, sub_at, Reply, takes_memory, commit_for, PlainPartition}
use Rattle.stream_model.specs.declared.plain.RunningTurn.{RunningTurn}
use Rattle.stream_model.proofs.Committing.{commit-unknown, commit-none, commit-other, commit-current}
use Rattle.partition_reference.proofs.turns.commit.Goals as goal

pub returns-in_default-clause-performs : goal.returns-in_default-clause-performs
returns-in_default-clause-performs c =
    commit-unknown c.args.p.now c.args.grain c.args.activation c.args.turn c.args.note (sym c.place_of_grain.ensures ∙ c.in_default.is)

pub returns-in_default-running-clause-performs : goal.returns-in_default-running-clause-performs
returns-in_default-running-clause-performs c =
    let st = c.grain_in-found.result.now in
    commit-none c.args.p.now c.args.grain c.args.activation c.args.turn c.args.note st (grain_at-is c.args.p.now c.args.grain st c.grain_in-found.ensures) c.in_default-running.is

pub returns-then-not-is_current-clause-performs : goal.returns-then-not-is_current-clause-performs
returns-then-not-is_current-clause-performs c =
    let st = c.grain_in-found.result.now in
    commit-other c.args.p.now c.args.grain c.args.activation c.args.turn c.args.note st c.in-Some-running.run' (grain_at-is c.args.p.now c.args.grain st c.grain_in-found.ensures) c.in-Some-running.is (sym c.is_current.ensures ∙ c.if-not-is_current.true)

pub returns-clause-performs : goal.returns-clause-performs
returns-clause-performs c =
    let p = c.args.p.now in
    let st = c.grain_in-found.result.now in
    let run = c.in-Some-running.run' in
    let is_current = commit-current p c.args.grain c.args.activation c.args.turn c.args.note st run (grain_at-is p c.args.grain st c.grain_in-found.ensures) c.in-Some-running.is (sym c.is_current.ensures ∙ c.if-not-is_current.false) in
    let same = ap (λ (run : RunningTurn). commit_for p c.args.grain (grain_at p c.args.grain) run c.args.note (sub_at p run.sub)) c.copy_of-run.ensures ∙ is_current in
    subst (Performs p c.commit_run.new.p c.commit_run.result) same c.commit_run.ensures.performs

pub returns-clause-memory : goal.returns-clause-memory
returns-clause-memory c =
    let p = c.args.p.now in
    let st = c.grain_in-found.result.now in
    let run = c.in-Some-running.run' in
    let is_current = commit-current p c.args.grain c.args.activation c.args.turn c.args.note st run (grain_at-is p c.args.grain st c.grain_in-found.ensures) c.in-Some-running.is (sym c.is_current.ensures ∙ c.if-not-is_current.false) in
    let same = ap (λ (run : RunningTurn). commit_for p c.args.grain (grain_at p c.args.grain) run c.args.note (sub_at p run.sub)) c.copy_of-run.ensures ∙ is_current in
    subst (λ (stepped : PlainPartition × Reply). OnErr c.commit_run.result (takes_memory stepped.1 ≡ true)) same c.commit_run.ensures.memory
