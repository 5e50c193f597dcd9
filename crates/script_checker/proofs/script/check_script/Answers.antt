use Rattle.script_checker.proofs.Prelude.{ap, arith, length}
use Rattle.stream_script.proofs.CutLemmas.{length-lines_of}
use Rattle.stream_script.specs.Lines.{lines_of}
use Rattle.script_checker.proofs.ScriptLemmas.{goes_on}
use Rattle.script_checker.proofs.script.check_script.Goals as goal

pub overflow_add-number : goal.overflow_add-number
overflow_add-number c = omega (arith, c.loop-line.invariant.number, ap length c.in-Some.ensures, length-lines_of c.args.script.now, c.requires.short)

pub loop-line-preserved : goal.loop-line-preserved
loop-line-preserved c =
    let was = rw c.in-Some.ensures at c.loop-line.invariant in
    let line = c.in_ok-check_line.ensures in
    let added = c.in_ok-add.ensures in
    goes_on c.args.queues c.args.mode (lines_of c.args.script.now) c.loop-line.number c.in-Some.line.now c.next_line.new.self c.loop-line.findings was c.in_ok-check_line.field-0 c.add.new.self line.exact line.placed added.faults added.summary
