use Rattle.script_runs.proofs.Prelude.{gone-refl, zip-refl, op-refl, is_fixed, HasGoneOn, ◌≡◌, ◌∙◌, false, subst, sym}
use Rattle.script_runs.specs.declared.runs.line.Stop.{Stop}
use Rattle.script_runs.specs.declared.runs.running.ScriptEnd.{ScriptEnd}
use Rattle.script_runs.specs.Runs.{EndsScript, StopsFront}
use Rattle.script_runs.proofs.runs.running.run_script.Goals as goal
use Rattle.script_runs.proofs.runs.running.run_script.Goals.{in-Err-RoundLimit, in-Err-Limit, in-Err-NotQuiet, in-Ok}

pub returns-then-is_fixed-clause-on : goal.returns-then-is_fixed-clause-on
returns-then-is_fixed-clause-on g c = zip-refl HasGoneOn gone-refl _

pub returns-then-is_fixed-clause-cluster : goal.returns-then-is_fixed-clause-cluster
returns-then-is_fixed-clause-cluster g c = op-refl _

pub returns-clause-script : goal.returns-clause-script
returns-clause-script g c =
    let v = c.args.cluster.now in
    let old = c.args.caller.now in
    let w = c.do_lines.new.cluster in
    let new = c.do_lines.new.caller in
    let found = c.do_lines.new.printed.items in
    let ends = λ (how : ScriptEnd). EndsScript how c.args.lines.items v old found w new in
    let free : is_fixed v ≡ false = sym c.is_fixed.ensures ∙ c.if-is_fixed.false in
    elim c.match-do_lines.branch as (λ s. EndsScript c.match-do_lines.end c.args.lines.items v old found w new) [
      | in-Ok b ↦ subst ends (sym b.end-is) (free, b.in-Ok.ensures.all)
      | in-Err-Limit b ↦ subst ends (sym b.end-is) (free, subst (λ (why : Stop). StopsFront why c.args.lines.items v old found w new) b.in-Err-Limit.field-0-is b.in-Err-Limit.ensures.front)
      | in-Err-NotQuiet b ↦ subst ends (sym b.end-is) (free, subst (λ (why : Stop). StopsFront why c.args.lines.items v old found w new) b.in-Err-NotQuiet.field-0-is b.in-Err-NotQuiet.ensures.front)
      | in-Err-RoundLimit b ↦ subst ends (sym b.end-is) (free, subst (λ (why : Stop). StopsFront why c.args.lines.items v old found w new) b.in-Err-RoundLimit.field-0-is b.in-Err-RoundLimit.ensures.front)
    ]
