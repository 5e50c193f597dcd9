use Rattle.silo_operators.proofs.Prelude.{after, replied, refl}
use Rattle.silo_operators.specs.Changes.{IsDeactivation}
use Rattle.silo_operators.proofs.Changing.{nowhere-called}
use Rattle.silo_operators.proofs.Making.{goes-called, made-called}
use Rattle.silo_operators.proofs.leaving.deactivate.Goals as goal

pub returns-clause-done : goal.returns-clause-done
returns-clause-done g c = (
  nowhere-called c.args.line.now _ c.in_ok-call.field-0 c.call.new.self c.in_ok-call.ensures refl,
  made-called replied after (IsDeactivation c.args.grain.now) c.args.line.now.pass _ c.in_ok-call.field-0 c.call.new.self.pass c.in_ok-call.ensures.call refl,
)

pub returns-in_err-call-clause-on : goal.returns-in_err-call-clause-on
returns-in_err-call-clause-on g c = goes-called replied after c.args.line.now.pass _ c.call.result c.call.new.self.pass c.call.ensures.call

pub returns-clause-on : goal.returns-clause-on
returns-clause-on g c = goes-called replied after c.args.line.now.pass _ c.call.result c.call.new.self.pass c.call.ensures.call
