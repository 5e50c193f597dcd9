use Rattle.script_runs.proofs.Prelude.{IsErrAnd, ◌≡◌, ◌∙◌, List, [], arith, refl, rules, subst, sym, map-id}
use Rattle.std.proofs.lemmas.Grind.{common_steps}
use Rattle.std.proofs.lemmas.Iterator.Adapters.{YieldsList-from_vec}
use Rattle.std.proofs.lemmas.Iterator.Consumers.{YieldsList-end, YieldsList-turn}
use Rattle.script_runs.specs.declared.runs.line.Stop.{Stop}
use Rattle.script_runs.specs.declared.runs.line.Stop.TheVariants as stop
use Rattle.script_runs.specs.declared.reader.script_line.ScriptLine.{ScriptLine}
use Rattle.script_runs.proofs.Progress.{Progress, begins, does, line-stopped, stops-later, wait-ends}
use Rattle.script_runs.proofs.Fronts.{told-part}
use Rattle.script_runs.proofs.runs.running.do_lines.Goals as goal

pub loop-line-init : goal.loop-line-init
loop-line-init g c =
    subst (λ (found : List ScriptLine). Progress c.args.lines.items c.args.cluster.now c.args.caller.now [] found c.args.cluster.now c.args.caller.now) (sym c.requires.none)
    (begins _ c.args.lines.items c.args.cluster.now c.args.caller.now c.requires.script)

pub returns-in_err-answer : goal.returns-in_err-answer
returns-in_err-answer g c =
    let turn = YieldsList-turn (YieldsList-from_vec {s = c.into_iter-line-iterator.result} c.args.lines.items c.into_iter-line-iterator.ensures.into_iter_gives.0 (first_of (search rules, grind (arith, common_steps)))) c.loop-line.yielded c.loop-line.line-iterator c.loop-line.yielded_by c.next.result c.next.new.self c.in-Some.line c.in-Some.is c.next.ensures.steps in
    let far = c.loop-line.invariant in
    let line = c.in-Some.line in
    let did = c.do_line.ensures in
    let why = c.in_err-answer.field-0.0 in
    let u = c.do_line.new.cluster in
    let new = c.do_line.new.caller in
    line-stopped far c.from_residual.result why c.loop-line.printed.items line u new c.from_residual.ensures.1 refl turn.0 turn.1 did.on did.at did.cluster c.in_err-answer.ensures.part
    (stops-later far why line.command u new c.requires.free (c.in_err-answer.ensures.stops (far.stays c.requires.free).0))

pub loop-line-preserved : goal.loop-line-preserved
loop-line-preserved g c =
    let turn = YieldsList-turn (YieldsList-from_vec {s = c.into_iter-line-iterator.result} c.args.lines.items c.into_iter-line-iterator.ensures.into_iter_gives.0 (first_of (search rules, grind (arith, common_steps)))) c.loop-line.yielded c.loop-line.line-iterator c.loop-line.yielded_by c.next.result c.next.new.self c.in-Some.line c.in-Some.is c.next.ensures.steps in
    let did = c.do_line.ensures in
    does c.loop-line.invariant c.in-Some.line c.in_ok-answer.answer c.note.new.printed.items c.do_line.new.cluster c.do_line.new.caller turn.0 turn.1 c.in_ok-answer.ensures.line c.in_ok-note.ensures.noted did.on did.at did.cluster

pub returns-in_err-note : goal.returns-in_err-note
returns-in_err-note g c =
    let turn = YieldsList-turn (YieldsList-from_vec {s = c.into_iter-line-iterator.result} c.args.lines.items c.into_iter-line-iterator.ensures.into_iter_gives.0 (first_of (search rules, grind (arith, common_steps)))) c.loop-line.yielded c.loop-line.line-iterator c.loop-line.yielded_by c.next.result c.next.new.self c.in-Some.line c.in-Some.is c.next.ensures.steps in
    let line = c.in-Some.line in
    let did = c.do_line.ensures in
    let u = c.do_line.new.cluster in
    let new = c.do_line.new.caller in
    let result = c.from_residual-in_err-note.result in
    let err = subst (λ (why : Stop). IsErrAnd result (λ h. h ≡ why)) c.in_err-note.ensures.memory c.from_residual-in_err-note.ensures.1 in
    let part = told-part c.loop-line.caller new line.command c.in_ok-answer.answer c.in_ok-answer.ensures.line.told in
    line-stopped c.loop-line.invariant result stop.Memory c.note.new.printed.items line u new err c.in_err-note.ensures.same turn.0 turn.1 did.on did.at did.cluster part tt

pub returns : goal.returns
returns g c =
    let waits = c.wait_until_quiet.ensures in
    let ending = YieldsList-end (YieldsList-from_vec {s = c.into_iter-line-iterator.result} c.args.lines.items c.into_iter-line-iterator.ensures.into_iter_gives.0 (first_of (search rules, grind (arith, common_steps)))) c.loop-line.yielded c.loop-line.line-iterator c.loop-line.yielded_by c.next.result c.next.new.self c.in-None.is c.next.ensures.steps in
    wait-ends c.loop-line.invariant c.wait_until_quiet.result c.looks.result c.wait_until_quiet.new.caller c.looks.ensures (sym (map-id c.loop-line.yielded) ∙ ending.0) c.requires.free waits.on waits.turnstiles waits.told waits.quiet waits.unquiet
