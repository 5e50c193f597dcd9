use Rattle.std.proofs.Common.{◌∙◌}
use Rattle.silo_threads.proofs.Places.{up-places}
use Rattle.stream_cluster_tests.proofs.running.Running.up.Goals as goal

pub returns : goal.returns
returns g c = up-places c.self.inside.cluster c.silo_up.new.self c.args.silo c.silo_up.result c.silo_up.ensures ∙ c.self.view_is
