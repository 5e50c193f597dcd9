use Rattle.script_tasks.proofs.Prelude.{◌∙◌, ap, subst, sym, IfSome_then, Appends, Reply, Op}
use Rattle.turnstile.specs.declared.recorded.ProofHistory.{ProofHistory}
use Rattle.turnstile.specs.Recorded.{answered, recorded}
use Rattle.script_tasks.specs.Printing.{PrintsRun, printed_text}
use Rattle.script_tasks.proofs.Running.{run-printed}
use Rattle.script_tasks.proofs.silos.run_with_gate.Goals as goal

pub returns-clause-written : goal.returns-clause-written
returns-clause-written g c =
    let config = c.args.config.now in
    let ran = c.in_ok-ran.ran in
    let old = g.W.Write.contents c.args.sink.now in
    let new = g.W.Write.contents c.write_text.new.sink in
    let text = c.deref.ensures.value ∙ c.in_ok-text.ensures ∙ ap (printed_text c.args.detail) c.in_ok-run_text.ensures in
    let written = subst (Appends old new) text c.in_ok-write_text.ensures in
    IfSome_then (g.R.Source.remaining c.args.source.now) c.in_ok-ran.ensures.source (λ input runs.
    subst (PrintsRun config c.args.detail input old new) (sym c.ended.ensures.exact)
    (run-printed config input old new runs.0 ran.printed.items runs.1 (λ (h : ProofHistory Op Reply). answered (recorded h.asked) (recorded h.replies)) c.args.detail ran.end runs.2 c.in_ok-ran.ensures.legal written))
