use Rattle.silo_operators.proofs.Prelude.{GoOn, GoesOn, length}
use Rattle.silo_operators.specs.Changes.{AreDeactivated, HasMade, HaveMovedNowhere, IsNoneLeft}
use Rattle.silo_operators.proofs.leaving.evict.Given as goal

abbrev pub invariant-loop : goal.invariant-loop
invariant-loop g l =
    record {
      on : GoOn l.fn.lines.items l.lines.items;
      directory : GoesOn l.fn.directory l.directory;
      nowhere : HaveMovedNowhere l.fn.lines.items l.lines.items;
      deactivated : AreDeactivated l.fn.silo l.fn.directory l.directory l.fn.lines.items l.lines.items;
      none : HasMade (length l.fn.directory.seen) l.directory (IsNoneLeft l.fn.silo) → ⊥;
    }
