use Rattle.queue_callers.proofs.Prelude.{err_from_is_err_and}
use Rattle.queue_callers.proofs.Splitting.{none-back, takes-back}
use Rattle.queue_callers.proofs.caller.Caller.split.Goals as goal

pub returns-in_err-doorbell : goal.returns-in_err-doorbell
returns-in_err-doorbell g c =
    let p = err_from_is_err_and c.from_residual.result c.from_residual.ensures.1 in
    rw p.1 (takes-back c.args.self.now c.args.self.now (none-back c.args.self.now))

pub returns-in_err-room : goal.returns-in_err-room
returns-in_err-room g c =
    let p = err_from_is_err_and c.from_residual-in_err-room.result c.from_residual-in_err-room.ensures.1 in
    rw p.1 (takes-back c.args.self.now c.args.self.now (none-back c.args.self.now))
