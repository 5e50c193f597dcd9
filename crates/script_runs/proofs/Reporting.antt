-- What a run prints, by what its script did and how its cluster has ended.
use Rattle.script_runs.proofs.Prelude.{told_of, owns-foreign, QueuePass, asks-foreign, zip-at, turnstiles, ClusterView, HasFinished, IsAtQueue, IsConfig, IsNew, HasGoneOn, ◌≡◌, ℕ, suc, ◌+◌, inl, inr, true, List, [], ◌∷◌, ◌++◌, length, map, Contains, Some, refl, sym, ap, subst, ◌∙◌, add-one, arith, true≢false, append-nil, AllByRecursion, AllZip, flat_map, range_with_len, slice_get, All-weaken, is_producer, Reply, Op, PlainPartition, queue_report, report_from, numbers_of, Entry, codes}
use Rattle.std.proofs.lemmas.Slice.Zip.{AllZip-long}
use Rattle.stream_model.specs.Looks.{quiet}
use Rattle.queue_callers.specs.declared.finishing.Finished.{Finished}
use Rattle.queue_callers.specs.declared.finishing.Finished.TheVariants as finished
use Rattle.queue_callers.specs.Closing.{AreTraces, IsTraceOf}
use Rattle.queue_callers.specs.Finishing.{CallersAloneProduce, HasBegun, IsDone}
use Rattle.queue_callers.proofs.Looking.{turnstiles-length}
use Rattle.silo_threads.specs.declared.config.Config.{Config}
use Rattle.silo_loops.specs.Silos.{SiloView}
use Rattle.stream_script.specs.declared.parser.command.Command.TheVariants as command
use Rattle.script_runs.specs.declared.reader.line.Line.{Line}
use Rattle.script_runs.specs.declared.reader.script_line.ScriptLine.{ScriptLine}
use Rattle.script_runs.specs.ScriptReport.{told_report}
use Rattle.script_runs.specs.Told as script
use Rattle.script_runs.proofs.Histories.{at-queues, beside-length}
use Rattle.script_runs.proofs.QuietReports.{script-told}
use Rattle.script_runs.specs.Telling.{AloneProduces, BeginsEmpty, HasTold, ProducesAlone, told_at}
use Rattle.script_runs.proofs.Seen.{none-told}
use Rattle.script_runs.specs.declared.runs.running.ScriptEnd.{ScriptEnd}
use Rattle.script_runs.specs.declared.runs.running.ScriptEnd.TheVariants as end
use Rattle.script_runs.specs.Lines.{HasToldFront}
use Rattle.script_runs.specs.Runs.{EndsRun, EndsScript, IsPrinted, IsUntouched, TellFront, TellScript, missed_in, run_end}
use Rattle.script_runs.proofs.Fronts.{none-part}
use Rattle.script_runs.proofs.Placing.{all-from}
use Rattle.script_runs.proofs.Progress.{alone-back}

-- ---- a new cluster

pub untouched : (config : Config) (c : ClusterView) (caller : List QueuePass) → IsConfig config → IsNew config c caller → IsUntouched config.silos c caller
untouched config c caller is new =
    record {
      live = new.opened.live;
      empty =
          All-weaken (IsAtQueue config) BeginsEmpty (λ (p : QueuePass) at. (at.0, at.1, (config.blocks, config.limits, is.blocks.0, ap (λ x. x.state) at.2)))
          caller (at-queues config c.operator.lines caller new.opened.at new.opened.beside);
      unused = new.opened.unused;
    }

-- ---- the histories

-- the pass, had it seen the whole history
abbrev at_end : QueuePass → List (Entry Op Reply) → QueuePass
at_end p history = record p { seen = history }

abbrev ends-on : (p : QueuePass) (history : List (Entry Op Reply)) → HasBegun p history → HasGoneOn p (at_end p history)
ends-on p history begun = record { only = refl; more = begun.rest; seen = begun.is; own = asks-foreign (numbers_of p) begun.rest begun.foreign }

all-contained : {A : Type 0} (P : A → Type 0) (xs : List A) → ((x : A) → Contains xs x → P x) → AllByRecursion P xs
all-contained P [] each = tt
all-contained P (x ∷ xs) each = (each x (0, omega arith, refl), all-contained P xs (λ y has. each y (suc has.0, omega (arith, has.1), has.2)))

-- each producer's entry of a history was made by the one caller
made-alone : (caller : List QueuePass) (histories : List (List (Entry Op Reply))) (queue : ℕ) (p : QueuePass) (history : List (Entry Op Reply))
    → CallersAloneProduce (caller ∷ []) histories → slice_get caller queue ≡ Some p → slice_get histories queue ≡ Some history → ProducesAlone (at_end p history)
made-alone caller histories queue p history alone had at =
    all-contained (λ (e : Entry Op Reply). is_producer e.op ≡ true → Contains (numbers_of p) e.number) history (λ e has produces.
    elim (alone queue history e at has produces) as (λ s. Contains (numbers_of p) e.number) [
      | inl made ↦ let same : made.0 ≡ p = cc in subst (λ (q : QueuePass). Contains (numbers_of q) e.number) same made.2
      | inr none ↦ absurd none
    ])

-- nobody else had produced, as far as the caller has seen
pub alone : (caller : List QueuePass) (histories : List (List (Entry Op Reply))) → AllZip HasBegun caller histories → CallersAloneProduce (caller ∷ []) histories → AloneProduces caller
alone caller histories begun made =
    all-from HasBegun ProducesAlone caller histories begun (λ queue p history had at is.
    (alone-back (p ∷ []) (at_end p history ∷ []) (ends-on p history is, tt) (made-alone caller histories queue p history made had at, tt)).0)

-- what a history tells of producers is what the caller was told
told-alike : (caller : List QueuePass) (histories : List (List (Entry Op Reply))) (queue : ℕ) (history : List (Entry Op Reply)) → AllZip HasBegun caller histories → CallersAloneProduce (caller ∷ []) histories → slice_get histories queue ≡ Some history
    → (p : QueuePass) × (slice_get caller queue ≡ Some p) × (script.producers_entries (told_of history) ≡ told_at p)
told-alike caller histories queue history begun made at =
    let beside = zip-at HasBegun caller histories queue history begun at in
    let p = beside.0 in
    let is = beside.2 in
    (p, beside.1, none-told p (at_end p history) (record { on = ends-on p history is; none = owns-foreign is_producer (numbers_of p) is.rest is.foreign }) (made-alone caller histories queue p history made beside.1 at))

histories-tell : (caller : List QueuePass) (histories : List (List (Entry Op Reply))) (missed : List ℕ) (lines : List Line) → AllZip HasBegun caller histories → CallersAloneProduce (caller ∷ []) histories → HasTold missed lines caller → TellScript missed lines histories
histories-tell caller histories missed lines begun made told queue history at = let alike = told-alike caller histories queue history begun made at in alike.2 ∙ told queue alike.0 alike.1

-- so is what it tells of a front of a script
front-tells : (caller : List QueuePass) (histories : List (List (Entry Op Reply))) (missed : List ℕ) (done left : List Line) → AllZip HasBegun caller histories → CallersAloneProduce (caller ∷ []) histories → HasToldFront missed done left caller
    → TellFront missed done left histories
front-tells caller histories missed done left begun made front = (
  front.0,
  λ queue history at.
      let alike = told-alike caller histories queue history begun made at in
      let has = front.1 queue alike.0 alike.1 in
      (has.0, alike.2 ∙ has.1, has.2),
)

-- ---- the report

-- the report of quiet partitions, from a queue on, where each history tells the script
report-from : (last : List QueuePass) (histories : List (List (Entry Op Reply))) (partitions : List PlainPartition) (queue : ℕ) (missed : List ℕ) (lines : List Line) → AreTraces last histories partitions → AllZip IsDone histories partitions
    → ((k : ℕ) (history : List (Entry Op Reply)) → slice_get histories k ≡ Some history → script.producers_entries (told_of history) ≡ script.told missed (queue + k) lines)
    → report_from queue partitions ≡ flat_map (λ q. told_report q (script.told missed q lines)) (range_with_len queue (length histories))
report-from [] [] [] queue missed lines traces done told = refl
report-from (p ∷ ps) (h ∷ hs) (partition ∷ partitions) queue missed lines traces done told =
    let trace : IsTraceOf p h partition = traces.0 in
    let empty = trace.empty in
    let stands = trace.stands empty.0 empty.1 empty.3 in
    let here : script.producers_entries (told_of h) ≡ script.told missed queue lines = subst (λ (k : ℕ). script.producers_entries (told_of h) ≡ script.told missed k lines) (omega arith) (told 0 h refl) in
    let is_quiet = ap (λ (x : PlainPartition). quiet x) (sym trace.partition_is) ∙ done.0.is_quiet in
    let first = ap (λ (x : PlainPartition). queue_report queue x) trace.partition_is ∙ script-told empty.0 empty.1 (told_of h) _ stands is_quiet queue missed lines here in
    let rest = report-from ps hs partitions (queue + 1) missed lines traces.1 done.1 (λ k history at.
    subst (λ (q : ℕ). script.producers_entries (told_of history) ≡ script.told missed q lines) (omega arith) (told (suc k) history at)) in
    λ i. first i ++ (ap (λ (q : ℕ). report_from q partitions) (sym (add-one queue)) ∙ rest) i
report-from _ _ _ queue missed lines traces done told = absurd traces

-- ---- a run

pub new-queues : (config : Config) (c : ClusterView) (caller : List QueuePass) → IsNew config c caller → length caller ≡ config.queues
new-queues config c caller new = beside-length caller c.operator.lines new.opened.beside ∙ new.opened.queues

module _ {H : Type 0} (entries : H → List (Entry Op Reply)) where
  -- what a script has printed and told that was done in part or as a whole, where nobody else has produced
  front-done : (config : Config) (lines : List Line) (c w : ClusterView) (caller now : List QueuePass) (found : List ScriptLine) (how : ScriptEnd) (histories : List (List (Entry Op Reply))) → IsConfig config → IsNew config c caller → EndsScript how lines c caller found w now
      → AllZip HasBegun now histories → CallersAloneProduce (now ∷ []) histories
      → (done left : List Line) × (lines ≡ done ++ left) × IsPrinted config.silos done found × TellFront (missed_in found) done left histories
  front-done config lines c w caller now found end.Done histories is new ends begun made =
      let fresh = untouched config c caller is new in
      let others = alone now histories begun made in
      let missed = missed_in found in (
        lines,
        [],
        sym (append-nil lines),
        ends.1.printed config.silos fresh others,
        front-tells now histories missed lines [] begun made (0, λ queue p at. ([], ends.1.told config.silos fresh others queue p at ∙ sym (append-nil (script.told missed queue lines)), none-part 0 command.Drain queue (λ less. refl))),
      )
  front-done config lines c w caller now found end.Halted histories is new ends begun made = absurd (true≢false (sym ends.0 ∙ new.goes_on))
  front-done config lines c w caller now found how histories is new ends begun made =
      let fresh = untouched config c caller is new in
      let others = alone now histories begun made in
      let front = ends.1.0 in
      (front.done, front.left, front.whole, front.printed config.silos fresh others, front-tells now histories (missed_in found) front.done front.left begun made (front.told config.silos fresh others))

  pub run-ends : (back : List SiloView) (config : Config) (lines : List Line) (c w : ClusterView) (caller now : List QueuePass) (found : List ScriptLine) (answer : Finished H) (how : ScriptEnd) → IsConfig config → IsNew config c caller → turnstiles now ≡ turnstiles caller
      → EndsScript how lines c caller found w now → HasFinished entries w (now ∷ []) back answer → EndsRun entries config lines found (run_end answer how)
  run-ends back config lines c w caller now found (finished.Report text traces) end.Done is new same ends fin =
      let done = ends.1 in
      let histories = map entries traces.histories.items in
      let begun = fin.begun.of_callers.0 in
      let answers = fin.finished.answers in
      let others = alone now histories begun fin.producers in
      let fresh = untouched config c caller is new in
      let missed = missed_in found in
      let tell = histories-tell now histories missed lines begun fin.producers (done.told config.silos fresh others) in
      let whole = report-from fin.finished.last histories traces.partitions.items 0 missed lines answers.2 answers.3 (λ k history at. subst (λ (q : ℕ). script.producers_entries (told_of history) ≡ script.told missed q lines) (omega arith) (tell k history at)) in
      let queues = AllZip-long HasBegun now histories begun ∙ turnstiles-length caller now same ∙ new-queues config c caller new in (
        done.printed config.silos fresh others,
        answers.4 ∙ ap (λ (rest : List ℕ). codes "report\n" ++ rest) (whole ∙ ap (λ (many : ℕ). flat_map (λ q. told_report q (script.told missed q lines)) (range_with_len 0 many)) queues),
        tell,
      )
  run-ends back config lines c w caller now found (finished.Report text traces) how is new same ends fin =
      front-done config lines c w caller now found how (map entries traces.histories.items) is new ends fin.begun.of_callers.0 fin.producers
  run-ends back config lines c w caller now found (finished.NotQuiet queue why traces) how is new same ends fin =
      front-done config lines c w caller now found how (map entries traces.histories.items) is new ends fin.begun.of_callers.0 fin.producers
  run-ends back config lines c w caller now found (finished.RoundLimit traces) how is new same ends fin =
      front-done config lines c w caller now found how (map entries traces.histories.items) is new ends fin.begun.of_callers.0 fin.producers
  run-ends back config lines c w caller now found (finished.Limit traces) how is new same ends fin =
      front-done config lines c w caller now found how (map entries traces.histories.items) is new ends fin.begun.of_callers.0 fin.producers
  run-ends back config lines c w caller now found (finished.NotAll queue missing) how is new same ends fin = refl
  run-ends back config lines c w caller now found finished.InUse how is new same ends fin = refl
