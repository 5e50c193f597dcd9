use Rattle.streams.proofs.Prelude.{◌∙◌, sym}
use Rattle.silo_threads.proofs.Places.{up-places}
use Rattle.streams.proofs.service.Service.silo_up.Goals as goal

pub invariant_of-self : goal.invariant_of-self
invariant_of-self g c = (
  record {
    some = c.self.invariant.0.some;
    here = c.self.invariant.0.here ∙ sym (up-places c.self.inside.cluster c.silo_up.new.self c.args.silo c.silo_up.result c.silo_up.ensures);
  },
  c.self.invariant.1,
  c.self.invariant.2,
)
