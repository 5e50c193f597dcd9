use Rattle.turnstile.proofs.Prelude.{rules}
use Rattle.turnstile.proofs.Keeps.{makes}
use Rattle.turnstile.proofs.turnstile.Turnstile.new.Goals as goal

pub new-requires : goal.new-requires
new-requires g c = makes _ _ _ _ _ _ record { history = c.empty-history.result; object = c.args.object } (search rules) (search rules) (search rules)
