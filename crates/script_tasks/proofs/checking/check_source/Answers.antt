use Rattle.script_tasks.proofs.Prelude.{List, [], ◌∷◌, ℕ, Option, Result, ◌∙◌, inr, subst, sym, IfSome_then, Appends}
use Rattle.script_checker.specs.declared.line.LineFault.{LineFault}
use Rattle.script_tasks.specs.declared.fault.ProgramFault.{ProgramFault}
use Rattle.script_tasks.specs.declared.options.CheckConfig.{CheckConfig}
use Rattle.script_tasks.specs.Checking.{EndsCheck, PrintsCheck, WritesCheck}
use Rattle.script_tasks.proofs.Running.{whole-input}
use Rattle.script_tasks.proofs.checking.check_source.Goals as goal

ends-as : (config : CheckConfig) (script : List ℕ) (old new : Option (List ℕ)) (faults : List LineFault) (result : Result Unit ProgramFault) → EndsCheck faults result
    → WritesCheck config script old new result → PrintsCheck config script old new result
ends-as config script old new [] result ends = rw ends (λ writes. writes)
ends-as config script old new (first ∷ others) result ends = rw ends (λ writes. inr writes)

pub returns-clause-written : goal.returns-clause-written
returns-clause-written g c =
    let findings = c.in_ok-findings.findings in
    let old = g.W.Write.contents c.args.sink.now in
    let new = g.W.Write.contents c.write_text.new.sink in
    let remaining = g.R.Source.remaining c.args.source.now in
    let read = c.in_ok-script.ensures.script in
    let writes = subst (Appends old new) (c.as_bytes.ensures.value ∙ c.in_ok-text.ensures) c.in_ok-write_text.ensures in
    let ends = rw c.deref-2.ensures.value at c.end_of.ensures in
    IfSome_then remaining (whole-input remaining (g.R.Source.remaining c.read_script.new.source) c.in_ok-script.script.items read.0 read.1) (λ input all.
    let found = rw (c.deref.ensures.value ∙ sym all) at c.in_ok-findings.ensures in
    ends-as c.args.config input old new findings.faults.items c.end_of.result ends (findings, found, writes, ends))
