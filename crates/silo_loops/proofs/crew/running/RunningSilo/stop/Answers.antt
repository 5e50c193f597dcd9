use Rattle.silo_loops.proofs.Prelude.{refl}
use Rattle.silo_loops.proofs.crew.running.RunningSilo.stop.Goals as goal

pub returns : goal.returns
returns g c = rw (← c.self.view_is) (record { silo = refl; agent = c.join.ensures; follows = g.G.Gate.follows; first = c.join-2.ensures; second = c.join-3.ensures })
