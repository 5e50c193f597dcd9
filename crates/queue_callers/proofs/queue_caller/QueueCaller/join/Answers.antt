use Rattle.queue_callers.proofs.Prelude.{QueuePass, subst, Agree}
use Rattle.queue_callers.proofs.queue_caller.QueueCaller.join.Goals as goal

pub returns-clause-agree : goal.returns-clause-agree
returns-clause-agree g c =
    subst (λ (p : QueuePass). Agree p c.args.other c.join.new.self) c.self.view_is
    (subst (λ (q : QueuePass). Agree c.self.inside.handle q c.join.new.self) c.other.view_is c.join.ensures.agree)
