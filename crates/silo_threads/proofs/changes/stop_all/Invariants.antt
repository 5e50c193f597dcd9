use Rattle.silo_threads.proofs.Prelude.{HasRun, AllZip}
use Rattle.turnstile.specs.Recorded.{recorded}
use Rattle.silo_operators.specs.Operators.{HasOnlyGoneOn}
use Rattle.silo_threads.specs.Clusters.{HaveEnded, RunsOn}
use Rattle.silo_threads.proofs.changes.stop_all.Given as goal

abbrev pub invariant-loop-silo : goal.invariant-loop-silo
invariant-loop-silo g l =
    record {
      only : HasOnlyGoneOn l.fn.operator l.operator;
      runs : RunsOn l.operator l.silo-iterator.rest.items;
      ran : AllZip HasRun l.yielded (recorded l.back);
      ends : HaveEnded l.fn.ends (recorded l.back) l.operator.lines l.operator.directory l.ends;
    }
