use Rattle.script_tasks.proofs.Prelude.{append_assoc, flat_map}
use Rattle.script_tasks.specs.Printing.{kept_line}
use Rattle.script_tasks.proofs.summary.without_events.Goals as goal

pub loop-line-preserved : goal.loop-line-preserved
loop-line-preserved c =
    rw (c.in_ok-keep_line.ensures, append_assoc c.loop-line.kept.items (kept_line c.in-Some.line.now) (flat_map kept_line c.next_line.new.self)) (rw c.in-Some.ensures at c.loop-line.invariant)
