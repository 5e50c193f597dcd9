use Rattle.stream_script.proofs.Texts.{Escapes}
use Rattle.stream_script.proofs.printer.parts.push_escaped.Given as goal

abbrev pub invariant-loop-at : goal.invariant-loop-at
invariant-loop-at l = Escapes l.fn.out.items l.out.items l.bytes l.from l.at
