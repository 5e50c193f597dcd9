use Rattle.silo_loops.proofs.Prelude.{◌≡◌, length, vec_capacity}
use Rattle.silo_loops.specs.Fronts.{AllZipFront}
use Rattle.silo_loops.specs.Silos.{IsSplitLine}
use Rattle.silo_loops.proofs.crew.lines.split_lines.Given as goal

abbrev pub invariant-loop-at : goal.invariant-loop-at
invariant-loop-at g l =
    record {
      same : l.lines.items ≡ l.fn.lines.items;
      made : length l.new.items ≡ l.at;
      off : AllZipFront IsSplitLine l.fn.lines.items l.new.items;
      room : vec_capacity l.new ≡ length l.fn.lines.items;
    }
