-- The positions of the turns that run, and of what is handled, are in the log.
use Rattle.stream_laws.proofs.Prelude.{◌≡◌, ◌∙◌, ap, subst, ℕ, ◌<◌, List, Some, cond-true, AllByRecursion, same_sub-refl, same_sub, past, Event, GrainId, StreamId, Token, AreIn, grain_at, running_in, PlainPartition, RunningTurn}
use Rattle.stream_laws.proofs.Invariant.{IsRunning, SubsFit, marks_of, running_of}
use Rattle.stream_laws.proofs.LogGrown.{within-handled, within-next}
use Rattle.stream_laws.proofs.LogLemmas.{length-marks_of}
use Rattle.stream_laws.proofs.Marks.{IsInTurn}
use Rattle.stream_laws.proofs.Summary.{Summary}

module _ (stream : StreamId) (start : Token) (log : List Event) (handled running : List ℕ) (in_turn : IsInTurn (marks_of stream start log) handled running) where
  pub handled-in_log : AreIn log handled
  handled-in_log = subst (λ n. AllByRecursion (λ q. q < n) handled) (length-marks_of stream start log) (within-handled (marks_of stream start log) handled running in_turn)

  pub running-in_log : AreIn log running
  running-in_log = subst (λ n. AllByRecursion (λ q. q < n) running) (length-marks_of stream start log) (within-next (marks_of stream start log) (past handled) running in_turn.next)

module _ (t : Summary) (p : PlainPartition) (g : GrainId) (run : RunningTurn) (is : (grain_at p g).running ≡ Some run) (runs : IsRunning t p g run) where
  -- the running positions of its subscription are those of the turn
  pub running_of-turn : running_of p run.sub runs.record_of ≡ run.positions
  running_of-turn =
      ap (λ g. running_in run.sub (grain_at p g).running) runs.grain ∙ ap (λ o. running_in run.sub o) is
      ∙ cond-true (same_sub run.sub run.sub) _ _ (same_sub-refl run.sub)

  pub turn-in_turn : SubsFit t p → IsInTurn (marks_of runs.record_of.stream runs.record_of.start p.log) runs.record_of.handled run.positions
  turn-in_turn subs =
      subst (λ positions. IsInTurn (marks_of runs.record_of.stream runs.record_of.start p.log) runs.record_of.handled positions) running_of-turn
      (subs run.sub runs.record_of runs.found).in_turn

  pub turn-in_log : SubsFit t p → AreIn p.log run.positions
  turn-in_log subs = running-in_log runs.record_of.stream runs.record_of.start p.log runs.record_of.handled run.positions (turn-in_turn subs)
