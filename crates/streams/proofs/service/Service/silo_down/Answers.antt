use Rattle.streams.proofs.Prelude.{◌∙◌, sym}
use Rattle.silo_threads.proofs.Places.{down-places}
use Rattle.streams.proofs.service.Service.silo_down.Goals as goal

pub invariant_of-self : goal.invariant_of-self
invariant_of-self g c = (
  record {
    some = c.self.invariant.0.some;
    here = c.self.invariant.0.here ∙ sym (down-places c.self.inside.cluster c.silo_down.new.self c.args.silo c.silo_down.result c.silo_down.ensures);
  },
  c.self.invariant.1,
  c.self.invariant.2,
)
