-- A line that drains tells nothing more, and why it is stopped.
use Rattle.script_runs.proofs.Prelude.{QueuePass, all-at, zip-at, LooksAWhile, ProducesNone, ◌≡◌, ℕ, inr, List, Option, Some, None, refl, sym, subst, AllZip}
use Rattle.doorbells.specs.declared.loop_end.LoopEnd.{LoopEnd}
use Rattle.doorbells.specs.declared.loop_end.Over.{Over}
use Rattle.doorbells.specs.declared.loop_end.Over.TheVariants as over
use Rattle.stream_script.specs.declared.parser.command.Command.TheVariants as command
use Rattle.script_runs.specs.declared.producer.answer.Answer.TheVariants as answer
use Rattle.script_runs.specs.Telling.{ProducesAlone, Tells}
use Rattle.script_runs.proofs.Replying.{line-none}
use Rattle.script_runs.proofs.Seen.{none-told}
use Rattle.script_runs.specs.declared.runs.line.Stop.{Stop}
use Rattle.script_runs.specs.Lines.{IsUnquiet, stop_by, stop_by_over}

pub drain_tells : (old new : List QueuePass) → AllZip ProducesNone old new → Tells old command.Drain answer.Taken new
drain_tells old new all =
    record {
      told = λ begins alone missed lines number fresh has queue q at.
          let beside = zip-at ProducesNone old new queue q all at in
          let p = beside.0 in
          line-none p q answer.Taken number missed queue lines command.Drain fresh refl
          (none-told p q beside.2 (all-at ProducesAlone new queue q alone at)) (has queue p beside.1);
      printed = λ begins alone missed lines number fresh has silos. refl;
    }

-- a loop has ended
over-unquiet : (how : Over) (looks : ℕ) (old new : List QueuePass) → LooksAWhile looks old new → IsUnquiet (stop_by_over how) looks old new
over-unquiet over.Rounds looks old new some = some
over-unquiet over.Limit looks old new some = inr some
over-unquiet over.Memory looks old new some = tt

end-unquiet : (end : Option LoopEnd) (looks : ℕ) (old new : List QueuePass) → LooksAWhile looks old new → IsUnquiet (stop_by end) looks old new
end-unquiet (Some end) looks old new some = over-unquiet end.over looks old new some
end-unquiet None looks old new some = inr some

pub ended_unquiet : (why : Stop) (end : Option LoopEnd) (looks : ℕ) (old new : List QueuePass) → why ≡ stop_by end → LooksAWhile looks old new → IsUnquiet why looks old new
ended_unquiet why end looks old new is some = subst (λ (s : Stop). IsUnquiet s looks old new) (sym is) (end-unquiet end looks old new some)
