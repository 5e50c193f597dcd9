use Rattle.step_core.proofs.Prelude.{◌≡◌, ◌∙◌, None, ap, sym, length, arith, err_from_is_err_and, option_map, PlainPartition}
use Rattle.step_core.specs.Serving.{name_of, next_due}
use Rattle.step_core.proofs.CatchRuns.{caught-from, halted-from, served-from}
use Rattle.step_core.proofs.DueNames.{goes-on-done, goes-on-first}
use Rattle.step_core.proofs.draining.serve_each.Goals as goal

pub loop-number-init : goal.loop-number-init
loop-number-init c = (goes-on-first c.args.partition.now, tt)

pub next_due-requires : goal.next_due-requires
next_due-requires c = c.loop-number.invariant.1

pub serve_number-requires : goal.serve_number-requires
serve_number-requires c = omega (arith, c.in-Some.ensures.within, ap (λ (p : PlainPartition). length p.subs) c.in-None.ensures.told)

pub returns-in_err-serve_number-in-None : goal.returns-in_err-serve_number-in-None
returns-in_err-serve_number-in-None c =
    let e = err_from_is_err_and c.from_residual.result c.from_residual.ensures.1 in
    rw (e.1, e.2)
    (halted-from c.args.partition.now c.loop-number.partition c.serve_number.new.partition c.loop-number.last c.next_due.result c.in-Some.number c.next_due.ensures.reached c.loop-number.invariant.0 c.in-Some.is c.next_due.ensures.next c.catch_up_from.new.self c.in_err-serve_number-in-None.field-0.0 c.in-None.ensures.told c.in_err-serve_number-in-None.ensures)

pub loop-number-smaller : goal.loop-number-smaller
loop-number-smaller c =
    (served-from c.args.partition.now c.loop-number.partition c.serve_number.new.partition c.loop-number.last c.next_due.result c.in-Some.number c.next_due.ensures.reached c.loop-number.invariant.0 c.in-Some.is c.next_due.ensures.next c.catch_up_from.new.self c.in-None.ensures.told c.in_ok-serve_number-in-None.ensures).fewer

pub loop-number-preserved : goal.loop-number-preserved
loop-number-preserved c =
    let from = served-from c.args.partition.now c.loop-number.partition c.serve_number.new.partition c.loop-number.last c.next_due.result c.in-Some.number c.next_due.ensures.reached c.loop-number.invariant.0 c.in-Some.is c.next_due.ensures.next c.catch_up_from.new.self c.in-None.ensures.told c.in_ok-serve_number-in-None.ensures in
    (from.goes, omega (arith, c.in-Some.ensures.within, from.long))

pub loop-number-smaller-in-Some-catch_up_from : goal.loop-number-smaller-in-Some-catch_up_from
loop-number-smaller-in-Some-catch_up_from c =
    (caught-from c.args.partition.now c.loop-number.partition c.catch_up_from.new.self c.loop-number.last c.next_due.result c.in-Some.number c.next_due.ensures.reached c.loop-number.invariant.0 c.in-Some.is c.next_due.ensures.next c.in-Some-catch_up_from.end c.in-Some-catch_up_from.ensures.told).fewer

pub loop-number-preserved-in-Some-catch_up_from : goal.loop-number-preserved-in-Some-catch_up_from
loop-number-preserved-in-Some-catch_up_from c =
    ((caught-from c.args.partition.now c.loop-number.partition c.catch_up_from.new.self c.loop-number.last c.next_due.result c.in-Some.number c.next_due.ensures.reached c.loop-number.invariant.0 c.in-Some.is c.next_due.ensures.next c.in-Some-catch_up_from.end c.in-Some-catch_up_from.ensures.told).goes, c.in-Some-catch_up_from.ensures.within)

pub returns : goal.returns
returns c =
    let here = c.loop-number.partition in
    let last = option_map (name_of here) c.loop-number.last in
    let none : None ≡ next_due here last = sym (ap (option_map (name_of here)) c.in_default.is) ∙ c.next_due.ensures.next in
    goes-on-done c.args.partition.now here last c.next_due.ensures.reached c.loop-number.invariant.0 none
