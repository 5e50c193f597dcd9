use Rattle.queue_callers.proofs.Prelude.{subst, QueuePass, ◌≡◌, false, List, map, Option, Result, Ok, Err, IfOk, AllocError, Reply, Op, Entry}
use Rattle.queue_callers.specs.Closing.{IsClosing, AreTracesOf}
use Rattle.queue_callers.specs.Gathering.{passes_of, Gathers, gathered}
use Rattle.queue_callers.specs.declared.asking.Quiet.{Quiet}
use Rattle.queue_callers.specs.declared.closing.Traces.{Traces}
use Rattle.queue_callers.specs.declared.ends.LoopEnds.{LoopEnds}
use Rattle.queue_callers.specs.declared.finishing.Finished.{Finished}
use Rattle.queue_callers.specs.declared.finishing.Finished.TheVariants as finished
use Rattle.queue_callers.specs.Finishing.{Answers, CallersAloneProduce, CameTo, HaveBegun, IsFinished, OnHistories}
use Rattle.queue_callers.proofs.Begun.{callers-alone, have-begun}
use Rattle.queue_callers.proofs.finishing.finish.Goals as goal

module _ {H : Type 0} (entries : H → List (Entry Op Reply)) where
  -- an answer of which that is so
  finished-so : (ls : List QueuePass) (cs : List (List QueuePass)) (all last : List QueuePass) (ends : LoopEnds) (asked : Option Quiet) (answer : Finished H) → ends.memory ≡ false → Gathers ls cs all → CameTo asked all last
      → Answers entries ends asked last answer → IsFinished entries ends (gathered ls cs) answer
  finished-so ls cs all last ends asked answer memory gathers came answers =
      record { memory = memory; asked = asked; last = last; came_to = subst (λ (es : List QueuePass). CameTo asked es last) gathers.whole came; answers = answers }

  on-histories : (P : List (List (Entry Op Reply)) → Type 0) (ends : LoopEnds) (asked : Option Quiet) (last : List QueuePass) (answer : Finished H) → ((traces : Traces H) → AreTracesOf entries last traces → P (map entries traces.histories.items))
      → Answers entries ends asked last answer → OnHistories entries P answer
  on-histories P ends asked last (finished.Report text traces) holds told = holds traces told.2
  on-histories P ends asked last (finished.NotQuiet queue why traces) holds told = holds traces told.2
  on-histories P ends asked last (finished.RoundLimit traces) holds told = holds traces told.3
  on-histories P ends asked last (finished.Limit traces) holds told = holds traces told.1
  on-histories P ends asked last _ holds told = tt

  -- all that is said where the answer tells of any passes that came to these traces
  all-said : (ls : List QueuePass) (cs : List (List QueuePass)) (all last : List QueuePass) (ends : LoopEnds) (asked : Option Quiet) (traces : Traces H) (result : Result (Finished H) AllocError)
      → ends.memory ≡ false → Gathers ls cs all → CameTo asked all last → AreTracesOf entries last traces
      → IfOk result (λ answer. (passes final : List QueuePass) → CameTo asked passes final → AreTracesOf entries final traces → Answers entries ends asked final answer)
      → IfOk result (IsFinished entries ends (gathered ls cs)) × IfOk result (OnHistories entries (HaveBegun ls cs)) × IfOk result (OnHistories entries (CallersAloneProduce cs))
  all-said ls cs all last ends asked traces (Ok answer) memory gathers came are answers =
      let told = answers all last came are in (
        finished-so ls cs all last ends asked answer memory gathers came told,
        on-histories (HaveBegun ls cs) ends asked last answer (λ some are_some. have-begun ls cs all last asked (map entries some.histories.items) some.partitions.items gathers came are_some) told,
        on-histories (CallersAloneProduce cs) ends asked last answer (λ some are_some. callers-alone ls cs all last asked (map entries some.histories.items) some.partitions.items gathers came are_some) told,
      )
  all-said ls cs all last ends asked traces (Err e) memory gathers came are answers = (tt, tt, tt)

pub returns-in-Traced : goal.returns-in-Traced
returns-in-Traced g c =
    let entries = g.H.StoredHistory.entries in
    let are = subst (λ e. IsClosing entries c.ask.new.caller e) c.in-Traced.is c.in_ok-close.ensures in
    let said = all-said entries (passes_of c.args.lines.items) c.args.callers.items c.in_ok-caller.caller c.ask.new.caller c.args.ends c.in_ok-asked.asked c.in-Traced.traces c.answer.result c.if-ends.false c.in_ok-caller.ensures c.in_ok-asked.ensures are c.answer.ensures in
    record { finished = said.0; begun = said.1; producers = said.2 }

pub returns-in-InUse-clause-finished : goal.returns-in-InUse-clause-finished
returns-in-InUse-clause-finished g c =
    finished-so g.H.StoredHistory.entries (passes_of c.args.lines.items) c.args.callers.items c.in_ok-caller.caller c.ask.new.caller c.args.ends c.in_ok-asked.asked _ c.if-ends.false c.in_ok-caller.ensures c.in_ok-asked.ensures tt

pub returns-in-NotAll-clause-finished : goal.returns-in-NotAll-clause-finished
returns-in-NotAll-clause-finished g c =
    let missing = subst (λ e. IsClosing g.H.StoredHistory.entries c.ask.new.caller e) c.in-NotAll.is c.in_ok-close.ensures in
    finished-so g.H.StoredHistory.entries (passes_of c.args.lines.items) c.args.callers.items c.in_ok-caller.caller c.ask.new.caller c.args.ends c.in_ok-asked.asked _ c.if-ends.false c.in_ok-caller.ensures c.in_ok-asked.ensures missing
