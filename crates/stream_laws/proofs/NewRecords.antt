-- Records that are made: nothing of them runs or waits, and they agree with the history.
use Rattle.stream_laws.proofs.Prelude.{◌≡◌, ◌∙◌, ap, sym, subst, refl, ℕ, ◌≤◌, true, false, List, [], ◌∷◌, length, map, filter, Option, Some, None, arith, cond_both, AllByRecursion, same_sub-equal, same_sub, Event, GrainId, StreamId, SubName, Token, grain_at, new_subscription, running_in, sub_at, waiting_in, Delivery, PlainPartition, RunningTurn, Subscription}
use Rattle.stream_laws.proofs.Invariant.{GrainsFit, IsBoxed, IsRunning, SubFits, marks_of}
use Rattle.stream_laws.proofs.LogLemmas.{length-marks_of}
use Rattle.stream_laws.proofs.Marks.{IsClear}
use Rattle.stream_laws.proofs.Summary.{Summary}

module _ (t : Summary) (p : PlainPartition) (s : SubName) (none : sub_at p s ≡ None) where
  -- the name isn't one that has a record
  unlike : (x : SubName) (r : Subscription) → sub_at p x ≡ Some r → same_sub s x ≡ true → ⊥
  unlike x r found same =
      let found_s : sub_at p s ≡ Some r = ap (sub_at p) (same_sub-equal s x same) ∙ found in cc

  -- nothing of a name without a record runs
  pub running-unmade : GrainsFit t p → (g : GrainId) → running_in s (grain_at p g).running ≡ []
  running-unmade grains g = by (grain_at p g).running (grains.each g).running
    where
      by : (o : Option RunningTurn) → ((run : RunningTurn) → o ≡ Some run → IsRunning t p g run) → running_in s o ≡ []
      by None runs = refl
      by (Some run) runs =
          let is = runs run refl in
          cond_both (same_sub s run.sub) run.positions [] (λ positions. positions ≡ []) (λ same. absurd (unlike run.sub is.record_of is.found same)) (λ _. refl)

  waiting-none : (g : GrainId) (deliveries : List Delivery) → AllByRecursion (IsBoxed p g) deliveries → waiting_in s deliveries ≡ []
  waiting-none g [] boxed = refl
  waiting-none g (d ∷ deliveries) boxed =
      let rest = waiting-none g deliveries boxed.1 in
      let is = boxed.0 in
      cond_both (same_sub s d.sub) (d ∷ filter (λ (d : Delivery). same_sub s d.sub) deliveries) (filter (λ (d : Delivery). same_sub s d.sub) deliveries) (λ ds. map (λ (d : Delivery). d.position) ds ≡ [])
      (λ same. absurd (unlike d.sub is.record_of is.found same)) (λ _. rest)

  -- nor waits
  pub waiting-unmade : GrainsFit t p → (g : GrainId) → waiting_in s (grain_at p g).mailbox ≡ []
  waiting-unmade grains g = waiting-none g (grain_at p g).mailbox (grains.each g).boxed

-- a new record agrees with a history that says nothing of its name but what it is bound to, where it is
-- owed none of the events before its position
pub SubFits-new : (t : Summary) (log : List Event) (low : ℕ) (s : SubName) (stream : StreamId) (grain : GrainId) (start : Token) (position : ℕ) (running waiting : List ℕ)
    → t.binding s ≡ Some (record { stream = stream; start = start }) → t.handled s ≡ [] → t.closed s ≡ false → t.note s ≡ 0
    → running ≡ [] → waiting ≡ []
    → IsClear (marks_of stream start log) 0 position → low ≤ position → position ≤ length log
    → SubFits t log low s (new_subscription stream grain start position) running waiting
SubFits-new t log low s stream grain start position running waiting binding handled closed note none_running none_waiting clear above within =
    subst (λ running. SubFits t log low s (new_subscription stream grain start position) running waiting) (sym none_running)
    (subst (λ waiting. SubFits t log low s (new_subscription stream grain start position) [] waiting) (sym none_waiting) (record {
      binding = binding;
      handled = handled;
      closed = closed;
      note = note;
      in_turn = record { first = refl; next = tt };
      served = λ _. record { covering = tt; sent = clear; safe = clear; low_resume = above; resume_cursor = omega arith; cursor_end = omega (arith, length-marks_of stream start log) };
    }))
