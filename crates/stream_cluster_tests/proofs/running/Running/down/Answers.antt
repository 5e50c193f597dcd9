use Rattle.std.proofs.Common.{◌∙◌}
use Rattle.silo_threads.proofs.Places.{down-places}
use Rattle.stream_cluster_tests.proofs.running.Running.down.Goals as goal

pub returns : goal.returns
returns g c = down-places c.self.inside.cluster c.silo_down.new.self c.args.silo c.silo_down.result c.silo_down.ensures ∙ c.self.view_is
