use Rattle.script_runs.proofs.Prelude.{List, Ok, ℕ, ◌∙◌, ap, arith, length, subst, sym, IsWithin}
use Rattle.stream_script.proofs.CutLemmas.{length-lines_of}
use Rattle.stream_script.specs.declared.parser.command.Parsed.{Parsed}
use Rattle.stream_script.specs.Lines.{lines_of}
use Rattle.script_runs.proofs.Finding.{Found, finds, may-run, skips}
use Rattle.script_runs.proofs.reader.reading.read_lines.Goals as goal

pub overflow_add-number : goal.overflow_add-number
overflow_add-number c = omega (arith, c.loop-line.invariant.number, ap length c.in-Some.ensures, length-lines_of c.args.script.now, c.requires.short)

pub loop-line-preserved-in-Skip : goal.loop-line-preserved-in-Skip
loop-line-preserved-in-Skip c =
    let was = subst (λ (rest : List (List ℕ)). Found c.args.queues (lines_of c.args.script.now) c.loop-line.number rest c.loop-line.found.items) c.in-Some.ensures c.loop-line.invariant.found in
    record {
      number = omega (arith, c.loop-line.invariant.number, ap length c.in-Some.ensures);
      found = skips c.args.queues (lines_of c.args.script.now) c.loop-line.number c.in-Some.line.now c.next_line.new.self c.loop-line.found.items was (sym c.in-Skip.is ∙ c.in_ok-parse_line.ensures.exact);
    }

pub loop-line-preserved : goal.loop-line-preserved
loop-line-preserved c =
    let was = subst (λ (rest : List (List ℕ)). Found c.args.queues (lines_of c.args.script.now) c.loop-line.number rest c.loop-line.found.items) c.in-Some.ensures c.loop-line.invariant.found in
    let reads = c.parse_line.ensures.found c.in-Command.command (c.in_ok-parse_line.was ∙ ap Ok c.in-Command.is) in
    let within = subst (λ (p : Parsed). IsWithin c.args.queues p) c.in-Command.is c.in_ok-parse_line.ensures.within in
    record {
      number = omega (arith, c.loop-line.invariant.number, ap length c.in-Some.ensures);
      found = finds c.args.queues (lines_of c.args.script.now) c.loop-line.number c.in-Some.line.now c.next_line.new.self c.loop-line.found.items c.push.new.self.items c.in-Command.command was (sym c.in-Command.is ∙ c.in_ok-parse_line.ensures.exact) (may-run c.args.queues c.in-Some.line.now c.in-Command.command reads within) c.in_ok-push-in-Command.ensures.items;
    }
