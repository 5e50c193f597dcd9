use Rattle.turnstile.proofs.Prelude.{subst, ap, ◌∙◌}
use Rattle.turnstile.specs.Calls.{outside, Agree}
use Rattle.turnstile.proofs.handle.Handle.join.Goals as goal

pub returns-clause-agree : goal.returns-clause-agree
returns-clause-agree g c =
    subst (λ p. Agree p c.args.other c.join.new.pass) (c.give_up.ensures ∙ ap (λ t. outside t c.self.inside.pass) c.deref.ensures ∙ c.self.view_is)
    (subst (λ q. Agree c.give_up.new.pass q c.join.new.pass) c.into_parts-turnstile.ensures.pass c.join.ensures.agree)
