use Rattle.step_core.proofs.Prelude.{err_from_is_err_and, deliver_up_to}
use Rattle.step_core.specs.DrainPhases.{after_deliveries, halted, meant}
use Rattle.step_core.proofs.DrainSteps.{ends-halted, ends-then}
use Rattle.step_core.proofs.ServeOps.{rest-is}
use Rattle.step_core.proofs.draining.serve_rest.Goals as goal

pub returns-then-catch_up : goal.returns-then-catch_up
returns-then-catch_up c = λ r found. c.if-catch_up.ensures.served c.args.most r.grain

pub returns-in_err-deliver_all : goal.returns-in_err-deliver_all
returns-in_err-deliver_all c =
    let e = err_from_is_err_and c.from_residual.result c.from_residual.ensures.1 in
    let why = c.in_err-deliver_all.field-0.0 in
    let here = c.catch_up.new.self in
    let new = c.deliver_all.new.partition in
    rw (e.1, e.2)
    (rest-is c.args.partition.now here new c.args.number c.args.most c.name-sub.result c.grain-grain.result (halted why) c.if-catch_up.ensures c.name-sub.ensures c.grain-grain.ensures
    (ends-halted here new why (deliver_up_to c.args.most c.name-sub.result c.grain-grain.result here) (after_deliveries c.name-sub.result) c.in_err-deliver_all.ensures))

pub returns : goal.returns
returns c =
    let here = c.catch_up.new.self in
    let new = c.settle.new.partition in
    let end = meant c.settle.result in
    rest-is c.args.partition.now here new c.args.number c.args.most c.name-sub.result c.grain-grain.result end c.if-catch_up.ensures c.name-sub.ensures c.grain-grain.ensures
    (ends-then here c.deliver_all.new.partition new end (deliver_up_to c.args.most c.name-sub.result c.grain-grain.result here) (after_deliveries c.name-sub.result) c.in_ok-deliver_all.ensures c.settle.ensures)
