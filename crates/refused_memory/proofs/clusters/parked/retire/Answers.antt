use Rattle.std.proofs.Common.{◌∙◌}
use Rattle.refused_memory.proofs.Retiring.{callers-at, first-at, first-lives, others-at, stays-parked}
use Rattle.refused_memory.proofs.clusters.parked.retire.Goals as goal

pub retire-retired-requires-clause-at : goal.retire-retired-requires-clause-at
retire-retired-requires-clause-at g c κs within = first-at c.args.cluster.operator c.args.crew.items c.remove-first.result c.requires.some c.remove-first.ensures.value c.requires.runs

pub retire-retired-requires-clause-live : goal.retire-retired-requires-clause-live
retire-retired-requires-clause-live g c κs within = λ goes. first-lives c.args.cluster.operator c.args.crew.items c.remove-first.result c.requires.some c.remove-first.ensures.value c.requires.live

pub finish-ended-requires-clause-parked : goal.finish-ended-requires-clause-parked
finish-ended-requires-clause-parked g c = stays-parked c.args.cluster c.retire-retired.new.self c.remove-first.result c.retire-retired.result c.retire-retired.ensures ∙ c.requires.parked

pub finish-ended-requires-clause-runs : goal.finish-ended-requires-clause-runs
finish-ended-requires-clause-runs g c =
    others-at c.args.cluster c.retire-retired.new.self c.args.crew.items c.remove-first.new.self.items c.remove-first.result c.retire-retired.result c.remove-first.ensures.items c.retire-retired.ensures c.requires.runs

pub finish-ended-requires-clause-callers : goal.finish-ended-requires-clause-callers
finish-ended-requires-clause-callers g c = callers-at c.args.cluster c.retire-retired.new.self c.args.callers.items c.remove-first.result c.retire-retired.result c.retire-retired.ensures c.requires.callers
