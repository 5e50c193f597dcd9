use Rattle.stream_script.proofs.Prelude.{sym, ap, ◌∙◌}
use Rattle.stream_script.proofs.CutLemmas.{cut-parts, from_parts}
use Rattle.stream_script.proofs.parser.lines.split_line.Goals as goal

pub returns-in-Some : goal.returns-in-Some
returns-in-Some c = cut-parts c.args.script.now c.requires ∙ ap (from_parts c.args.script.now) (sym c.in-Some.ensures)

pub returns-in-None : goal.returns-in-None
returns-in-None c = cut-parts c.args.script.now c.requires ∙ ap (from_parts c.args.script.now) (sym c.in-None.ensures)
