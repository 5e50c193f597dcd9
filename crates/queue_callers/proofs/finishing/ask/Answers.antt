use Rattle.queue_callers.proofs.Prelude.{Err, subst, Refusal}
use Rattle.queue_callers.specs.Asking.{AsksQuiet}
use Rattle.queue_callers.proofs.finishing.ask.Goals as goal

pub returns-in-Err-HistoryFull : goal.returns-in-Err-HistoryFull
returns-in-Err-HistoryFull g c = subst (λ (e : Refusal). AsksQuiet c.args.caller.now (Err e) c.ask_quiet.new.caller) c.in-Err-HistoryFull.field-0-is c.in-Err-HistoryFull.ensures.asks
