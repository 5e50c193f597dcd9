use Rattle.script_tasks.proofs.Prelude.{IfSome_then}
use Rattle.script_tasks.proofs.Running.{trace-printed}
use Rattle.script_tasks.proofs.silos.trace_on_silos.Goals as goal

pub returns-clause-written : goal.returns-clause-written
returns-clause-written g c =
    let config = c.args.config.now in
    let ran = c.in_ok-ran.ran in
    let old = g.W.Write.contents c.args.sink.now in
    let new = g.W.Write.contents c.write_left.new.sink in
    IfSome_then (g.R.Source.remaining c.args.source.now) c.in_ok-ran.ensures.source (λ input runs.
    rw c.ended.ensures.exact
    (trace-printed config input old new runs.0 ran.printed.items runs.1 c.args.shown ran.end runs.2 c.in_ok-ran.ensures.legal c.in_ok-write_left.ensures))
