use Rattle.grain_table.proofs.Prelude.{vec_capacity}
use Rattle.grain_table.proofs.ChangeLemmas.{few-run, some-ran}
use Rattle.grain_table.proofs.table.settle.Goals as goal

pub recount-requires-clause-some : goal.recount-requires-clause-some
recount-requires-clause-some c =
    some-ran c.args.number c.args.before c.args.entries.now c.args.ready.now.items (vec_capacity c.args.ready.now) c.args.running c.requires

pub recount-requires-clause-fits : goal.recount-requires-clause-fits
recount-requires-clause-fits c =
    few-run c.args.number c.args.before c.args.entries.now c.args.ready.now.items (vec_capacity c.args.ready.now) c.args.running c.requires
