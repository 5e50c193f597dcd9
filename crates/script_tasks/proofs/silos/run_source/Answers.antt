use Rattle.script_tasks.proofs.Prelude.{length, IfSome_then}
use Rattle.std.proofs.lemmas.Bool.{le-ltb}
use Rattle.stream_script.specs.declared.parser.limits.TheConstants.{MOST_SCRIPT_BYTES}
use Rattle.script_tasks.proofs.Running.{whole-input}
use Rattle.script_tasks.proofs.silos.run_source.Goals as goal

pub returns-clause-source : goal.returns-clause-source
returns-clause-source g c =
    let script = c.in_ok-script.script.items in
    let known = c.in_ok-script.ensures.script in
    let read = rw c.in-Lines.is at c.in_ok-lines.ensures in
    let is = rw c.deref.ensures.value at read.0 in
    let remaining = g.R.Source.remaining c.args.source.now in
    IfSome_then remaining (whole-input remaining (g.R.Source.remaining c.read_script.new.source) script known.0 known.1) (λ input all.
    (c.in-Lines.lines.items, rw (all, le-ltb MOST_SCRIPT_BYTES (length script) known.2) is, c.in_ok-run.ensures.script))
