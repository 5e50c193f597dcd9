use Rattle.silo_threads.proofs.Prelude.{◌≡◌, AllByRecursion}
use Rattle.silo_operators.specs.Operators.{HasOnlyGoneOn}
use Rattle.silo_threads.specs.Clusters.{HaveComeBack, RunsOn, all_noted}
use Rattle.silo_threads.proofs.changes.take_all_back.Given as goal

abbrev pub invariant-loop-loops : goal.invariant-loop-loops
invariant-loop-loops g l =
    record {
      only : HasOnlyGoneOn l.fn.operator l.operator;
      runs : RunsOn l.operator l.loops-iterator.rest.items;
      ends : l.ends ≡ all_noted l.fn.ends l.yielded;
      back : AllByRecursion (HaveComeBack l.operator.lines l.operator.directory) l.yielded;
    }
