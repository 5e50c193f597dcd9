use Rattle.step_core.proofs.Prelude.{PlainActivation, current_turn, ◌∙◌, ap, sym, subst, length, arith, past_from-within, on-error, PlainTable}
use Rattle.step_core.specs.Assembly.{IsAssembled}
use Rattle.step_core.specs.Replied.{reply_of}
use Rattle.step_core.proofs.CommitOps.{Runs, commit-assembled, commit-none, commit-stale, commit-takes, commit-told, ends-running, is-running, running-below, running-rises, running-within}
use Rattle.step_core.proofs.turns.commit.Goals as goal

pub returns-in_default-clause-performs : goal.returns-in_default-clause-performs
returns-in_default-clause-performs c =
    sym (commit-none c.args.parts.now c.args.grain.now c.args.activation c.args.turn c.args.note (sym c.find.ensures.number ∙ c.in_default.is))

pub returns-in_default-current_turn-clause-performs : goal.returns-in_default-current_turn-clause-performs
returns-in_default-current_turn-clause-performs c =
    let none = ap (λ (a : PlainActivation). current_turn a c.args.activation c.args.turn) (sym c.at.ensures.activation) ∙ sym c.in_default-current_turn.ensures in
    sym (commit-stale c.args.parts.now c.args.grain.now c.in-Some.number c.args.activation c.args.turn c.args.note (record { agrees = c.requires; found = sym c.find.ensures.number ∙ c.in-Some.is }) none)

pub handle-requires : goal.handle-requires
handle-requires c =
    let parts = c.args.parts.now in
    let run = c.in-Some-current_turn.run'.now in
    let runs : Runs parts c.args.grain.now c.in-Some.number c.args.activation c.args.turn run = record {
      has = record { agrees = c.requires; found = sym c.find.ensures.number ∙ c.in-Some.is };
      is_current = ap (λ (a : PlainActivation). current_turn a c.args.activation c.args.turn) (sym c.at.ensures.activation) ∙ sym c.in-Some-current_turn.ensures;
    } in
    let within = running-within parts c.args.grain.now c.in-Some.number run c.requires.within runs.has.found (is-running runs) in
    record {
      within = running-below runs;
      positions = within;
      rising = running-rises runs;
      room = omega (arith, past_from-within 0 (length parts.queue.events) run.positions (omega arith) within, c.requires.within.events, c.requires.within.limits.events);
    }

pub returns-in_err-told-clause-assembled : goal.returns-in_err-told-clause-assembled
returns-in_err-told-clause-assembled c =
    subst (λ (subs : PlainTable). IsAssembled (record c.args.parts.now { subs = subs })) (sym c.in_err-told.ensures.performs) c.requires.assembled

pub returns-in_err-told-clause-memory : goal.returns-in_err-told-clause-memory
returns-in_err-told-clause-memory c =
    let runs : Runs c.args.parts.now c.args.grain.now c.in-Some.number c.args.activation c.args.turn c.in-Some-current_turn.run'.now = record {
      has = record { agrees = c.requires; found = sym c.find.ensures.number ∙ c.in-Some.is };
      is_current = ap (λ (a : PlainActivation). current_turn a c.args.activation c.args.turn) (sym c.at.ensures.activation) ∙ sym c.in-Some-current_turn.ensures;
    } in
    on-error c.from_residual.result (commit-takes c.args.note runs c.in_err-told.ensures.memory)

pub returns : goal.returns
returns c =
    let runs : Runs c.args.parts.now c.args.grain.now c.in-Some.number c.args.activation c.args.turn c.in-Some-current_turn.run'.now = record {
      has = record { agrees = c.requires; found = sym c.find.ensures.number ∙ c.in-Some.is };
      is_current = ap (λ (a : PlainActivation). current_turn a c.args.activation c.args.turn) (sym c.at.ensures.activation) ∙ sym c.in-Some-current_turn.ensures;
    } in
    let ends = ends-running c.commit-ended.new.self runs c.commit-ended.ensures.grains in
    record {
      assembled = commit-assembled c.args.note c.handle.new.subs c.commit-ended.new.self (reply_of c.in_ok-told.told) runs c.in_ok-told.ensures.performs ends;
      performs = commit-told c.args.note c.handle.new.subs c.commit-ended.new.self (reply_of c.in_ok-told.told) runs c.in_ok-told.ensures.performs ends;
      told = c.in_ok-told.ensures.told;
      memory = tt;
    }
