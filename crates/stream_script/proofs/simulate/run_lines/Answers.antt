use Rattle.stream_script.proofs.Prelude.{◌∙◌, length, ap, arith}
use Rattle.stream_script.proofs.CutLemmas.{length-lines_of}
use Rattle.stream_script.proofs.Running.{goes_on, stops, line_done}
use Rattle.stream_script.proofs.simulate.run_lines.Goals as goal

pub returns-in-Err-clause-written : goal.returns-in-Err-clause-written
returns-in-Err-clause-written g c =
    let now = c.loop-line in
    let here = line_done c.args.config now.simulator.config now.number now.simulator.partitions.items c.run_line.new.self.partitions.items _ _ c.in-Some.line.now c.run_line.new.text.items c.in_ok-fault.field-0 c.in-Some.ensures now.invariant.config c.in_default-2.is c.in_ok-fault.ensures.ran in
    stops _ _ _ _ _ _ c.run_line.new.text.items now.invariant.written here (rw (← c.deref.ensures.value) c.in-Err.ensures.err)

pub overflow_add-number : goal.overflow_add-number
overflow_add-number g c = omega (arith, c.loop-line.invariant.number, ap length c.in-Some.ensures, length-lines_of c.args.script.now, c.requires.short)

pub loop-line-preserved : goal.loop-line-preserved
loop-line-preserved g c =
    let now = c.loop-line in
    let here = line_done c.args.config now.simulator.config now.number now.simulator.partitions.items c.run_line.new.self.partitions.items _ _ c.in-Some.line.now c.run_line.new.text.items c.in_ok-fault.field-0 c.in-Some.ensures now.invariant.config c.in_default-2.is c.in_ok-fault.ensures.ran in
    record {
      config = c.run_line.ensures.config ∙ now.invariant.config;
      failures = c.in_default-write_all.ensures.counted ∙ now.invariant.failures;
      number = omega (arith, now.invariant.number, ap length c.in-Some.ensures);
      written = goes_on _ _ _ _ _ _ c.run_line.new.text.items now.invariant.written here (rw (← c.deref.ensures.value) c.in_default-write_all.ensures.ok);
    }
