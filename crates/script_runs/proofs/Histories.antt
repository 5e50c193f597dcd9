-- The histories of a run are legal, from the empty partition of its configuration.
use Rattle.script_runs.proofs.Prelude.{after, replied, LineView, QueuePass, places, line-turnstiles, QueueCalls, joined_passes, turnstiles, AreAtQueues, ClusterView, HasFinished, IsAtQueue, IsNew, ◌≡◌, suc, List, [], ◌∷◌, length, map, Option, Some, None, Result, Ok, Err, refl, sym, ap, subst, ◌∙◌, length-map, AllByRecursion, AllZip, empty, Reply, Op, PlainPartition, IsLegal, replay, Entry, Refusal, HistoryFull}
use Rattle.stream_model.specs.declared.op.Op.TheVariants as op
use Rattle.turnstile.specs.Passes.{Origin}
use Rattle.silo_loops.specs.Silos.{GoOn, SiloView}
use Rattle.silo_loops.proofs.Going.{goes-places}
use Rattle.queue_callers.specs.declared.asking.Quiet.{Quiet}
use Rattle.queue_callers.specs.declared.closing.Traces.{Traces}
use Rattle.queue_callers.specs.declared.finishing.Finished.{Finished}
use Rattle.queue_callers.specs.declared.finishing.Finished.TheVariants as finished
use Rattle.queue_callers.proofs.Looking.{look-each}
use Rattle.queue_callers.proofs.Splitting.{turnstiles-joined}
use Rattle.queue_callers.specs.Calls.{AreAlike}
use Rattle.queue_callers.specs.Closing.{AreTraces, IsTraceOf}
use Rattle.queue_callers.specs.Finishing.{CameTo}
use Rattle.queue_callers.specs.Gathering.{gathered, passes_of}
use Rattle.silo_threads.specs.declared.config.Config.{Config}
use Rattle.script_runs.specs.declared.runs.running.ScriptEnd.{ScriptEnd}
use Rattle.script_runs.specs.declared.runs.running.ScriptEnd.TheVariants as end
use Rattle.script_runs.specs.Runs.{AreLegal, IsLegalHistory, LeavesLegalTraces, run_end}

-- ---- which turnstiles the passes of the end are of

asked-at : (result : Result Reply Refusal) (p q : QueuePass) → QueueCalls p op.Quiet result q → q.turnstile ≡ p.turnstile
asked-at result p q calls = ap (λ (x : QueuePass). x.turnstile) calls.calls.only

all-alike : (old new : List QueuePass) → AllZip AreAlike old new → turnstiles new ≡ turnstiles old
all-alike [] [] all = refl
all-alike (p ∷ ps) (q ∷ qs) all = λ i. all.0 i ∷ all-alike ps qs all.1 i
all-alike _ _ all = absurd all

came-at : (asked : Option Quiet) (old new : List QueuePass) → CameTo asked old new → turnstiles new ≡ turnstiles old
came-at (Some quiet) old new came = all-alike old new (look-each AreAlike (λ p. refl) asked-at old (Ok quiet) new came)
came-at None old new came = all-alike old new (look-each AreAlike (λ p. refl) asked-at old (Err HistoryFull) new came)

gathered-at : (ps : List QueuePass) (callers : List (List QueuePass)) → turnstiles (gathered ps callers) ≡ turnstiles ps
gathered-at ps [] = refl
gathered-at ps (caller ∷ callers) = gathered-at (joined_passes ps caller) callers ∙ turnstiles-joined ps caller

pub at-queues : (config : Config) (lines : List LineView) (ps : List QueuePass) → AreAtQueues config lines → turnstiles ps ≡ places lines → AllByRecursion (IsAtQueue config) ps
at-queues config lines [] at beside = tt
at-queues config [] (p ∷ ps) at beside = absurd (cc)
at-queues config (l ∷ lines) (p ∷ ps) at beside =
    let first : p.turnstile ≡ l.pass.turnstile = cc in
    let rest : turnstiles ps ≡ places lines = cc in
    ((at.0.0, first ∙ at.0.1, at.0.2), at-queues config lines ps at.1 rest)

pub beside-length : (ps : List QueuePass) (lines : List LineView) → turnstiles ps ≡ places lines → length ps ≡ length lines
beside-length ps lines same =
    sym (length-map ps (λ (p : QueuePass). p.turnstile)) ∙ ap (λ ts. length ts) same ∙ length-map lines (λ (l : LineView). l.pass.turnstile)

-- ---- the histories

legal-history : (config : Config) (p : QueuePass) (history : List (Entry Op Reply)) (partition : PlainPartition) → IsAtQueue config p → IsTraceOf p history partition → IsLegalHistory config history partition
legal-history config p history partition at trace =
    let both : Some trace.origin ≡ Some at.0 = sym trace.of ∙ at.1 in
    let same : trace.origin ≡ at.0 = cc in
    let start : trace.origin.start.state ≡ empty config.blocks config.limits = ap (λ (o : Origin PlainPartition). o.start.state) same ∙ ap (λ s. s.state) at.2 in
    record {
      legal = subst (λ (s : PlainPartition). IsLegal replied after s history) start trace.legal;
      leaves = trace.partition_is ∙ ap (λ (s : PlainPartition). replay replied after s history) start;
      headline = trace.headline;
    }

all-legal : (config : Config) (last : List QueuePass) (histories : List (List (Entry Op Reply))) (partitions : List PlainPartition) → AllByRecursion (IsAtQueue config) last → AreTraces last histories partitions
    → (length histories ≡ length last) × AllZip (IsLegalHistory config) histories partitions
all-legal config [] [] [] at traces = (refl, tt)
all-legal config (p ∷ ps) (h ∷ hs) (q ∷ qs) at traces =
    let rest = all-legal config ps hs qs at.1 traces.1 in
    (ap suc rest.0, (legal-history config p h q at.0 traces.0, rest.1))
all-legal config _ _ _ at traces = absurd traces

module _ {H : Type 0} (entries : H → List (Entry Op Reply)) where
  -- the traces of a cluster that was new, and has gone on to its end
  traces-legal : (config : Config) (c w : ClusterView) (caller now : List QueuePass) (lines : List LineView) (asked : Option Quiet) (last : List QueuePass) (traces : Traces H) → IsNew config c caller → GoOn c.operator.lines w.operator.lines → GoOn w.operator.lines lines
      → CameTo asked (gathered (passes_of lines) (now ∷ [])) last → AreTraces last (map entries traces.histories.items) traces.partitions.items → AreLegal entries config traces
  traces-legal config c w caller now lines asked last traces new first on came are =
      let same : turnstiles last ≡ places c.operator.lines =
      came-at asked (gathered (passes_of lines) (now ∷ [])) last came ∙ gathered-at (passes_of lines) (now ∷ []) ∙ line-turnstiles lines
      ∙ goes-places w.operator.lines lines on ∙ goes-places c.operator.lines w.operator.lines first in
      let all = all-legal config last (map entries traces.histories.items) traces.partitions.items (at-queues config c.operator.lines last new.opened.at same) are in
      record {
        count = sym (length-map traces.histories.items entries) ∙ all.0 ∙ beside-length last c.operator.lines same ∙ new.opened.queues;
        each = all.1;
      }

  pub run-legal : (back : List SiloView) (config : Config) (c w : ClusterView) (caller now : List QueuePass) (answer : Finished H) (how : ScriptEnd) → IsNew config c caller → GoOn c.operator.lines w.operator.lines → HasFinished entries w (now ∷ []) back answer → LeavesLegalTraces entries config (run_end answer how)
  run-legal back config c w caller now (finished.Report text traces) end.Done new first fin =
      traces-legal config c w caller now fin.lines fin.finished.asked fin.finished.last traces new first fin.on fin.finished.came_to fin.finished.answers.2
  run-legal back config c w caller now (finished.Report text traces) how new first fin =
      traces-legal config c w caller now fin.lines fin.finished.asked fin.finished.last traces new first fin.on fin.finished.came_to fin.finished.answers.2
  run-legal back config c w caller now (finished.NotQuiet queue why traces) how new first fin =
      traces-legal config c w caller now fin.lines fin.finished.asked fin.finished.last traces new first fin.on fin.finished.came_to fin.finished.answers.2
  run-legal back config c w caller now (finished.RoundLimit traces) how new first fin =
      traces-legal config c w caller now fin.lines fin.finished.asked fin.finished.last traces new first fin.on fin.finished.came_to fin.finished.answers.3
  run-legal back config c w caller now (finished.Limit traces) how new first fin =
      traces-legal config c w caller now fin.lines fin.finished.asked fin.finished.last traces new first fin.on fin.finished.came_to fin.finished.answers.1
  run-legal back config c w caller now (finished.NotAll queue missing) how new first fin = tt
  run-legal back config c w caller now finished.InUse how new first fin = tt
