-- The laws on histories as a whole: how they go on and come apart, and what each of them promises.
use Rattle.stream_laws.proofs.Prelude.{List, [], ◌∷◌, refl, sym, ap, subst, ◌∙◌, IsWithinLimits, empty, Leads, Stands, after_steps, replies_of, Op, PlainPartition}
use Rattle.stream_model.specs.History.{Entry, handled_events}
use Rattle.stream_model.specs.Step.{step}
use Rattle.stream_model.proofs.Reaching.{leads-append, within-empty}
use Rattle.stream_model.proofs.StepBounds.{bounds-step}
use Rattle.stream_laws.specs.Laws.{FrontsAreLegal, HistoriesGrow, LimitsAreKept, OneHistory, entries_of}
use Rattle.stream_laws.proofs.LawsOfEvents.{handled_in_order-from}
use Rattle.stream_laws.proofs.LawsOfMisses.{misses_below_low-from}
use Rattle.stream_laws.proofs.LawsOfTokens.{none_twice-from}
use Rattle.stream_laws.proofs.LawsOfTurns.{commits_begun-from, committed_once-from, none_after_close-from}
use Rattle.stream_laws.proofs.Legal.{StepsKeep, leads-split}
use Rattle.stream_laws.proofs.UniqueSteps.{steady-legal}

-- operations, each with the reply of its step, lead on
leads-run : (p : PlainPartition) (ops : List Op) → Leads p (entries_of ops (replies_of p ops)) (after_steps p ops)
leads-run p [] = refl
leads-run p (op ∷ ops) = (refl, leads-run (step p op).0 ops)

pub histories-grow : HistoriesGrow
histories-grow = record {
  led = λ blocks limits before later p q stands leads. leads-append (empty blocks limits) p q before later stands leads;
  run = λ blocks limits before p ops stands. leads-append (empty blocks limits) p (after_steps p ops) before (entries_of ops (replies_of p ops)) stands (leads-run p ops);
}

pub fronts-legal : FrontsAreLegal
fronts-legal blocks limits before later q stands = leads-split (empty blocks limits) before later q stands

-- entries lead from within the limits to within the limits
within-leads : (p : PlainPartition) (entries : List Entry) (q : PlainPartition) → IsWithinLimits p → Leads p entries q → IsWithinLimits q
within-leads p [] q within is = subst IsWithinLimits (sym is) within
within-leads p (e ∷ entries) q within leads = within-leads (step p e.op).0 entries q (bounds-step p e.op within) leads.1

pub limits-kept : LimitsAreKept
limits-kept blocks limits history p bound are stands =
    ((steady-legal blocks limits history p stands).limits, within-leads (empty blocks limits) history p (within-empty blocks limits bound are) stands)

pub one_history-from : StepsKeep → OneHistory
one_history-from keep blocks limits history p stands = record {
  in_order = λ s. handled_in_order-from keep blocks limits history p stands s;
  once = λ s. (none_twice-from keep blocks limits history p stands s).0;
  closed = λ before later parts s closed.
      ap (λ told. handled_events told s) parts
      ∙ none_after_close-from keep blocks limits before later p (subst (λ told. Stands blocks limits told p) parts stands) s closed;
  begun = λ before e later parts. commits_begun-from keep blocks limits before e later p (subst (λ told. Stands blocks limits told p) parts stands);
  committed = λ turn. (committed_once-from keep blocks limits history p stands turn).1;
  misses = λ before e later parts. misses_below_low-from keep blocks limits before e later p (subst (λ told. Stands blocks limits told p) parts stands);
}
