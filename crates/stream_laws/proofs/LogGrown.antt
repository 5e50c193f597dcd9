-- A log that grows at its end: what was marked stays so.
use Rattle.stream_laws.proofs.Prelude.{◌≡◌, ◌∙◌, sym, subst, refl, ℕ, zero, suc, ◌<◌, ◌≤◌, Bool, false, List, [], ◌∷◌, ◌++◌, length, get_or, arith, cond_both, get_or_append_left, length-append, map-append, AllByRecursion, All-append, past_from-within, is_owed, past, Event, StreamId, Token, AreIn, events_at, no_event}
use Rattle.stream_laws.proofs.Invariant.{marks_of}
use Rattle.stream_laws.proofs.MarkLemmas.{IsClear-marks, IsCovering-marks, IsNext-marks, marked-within, marked_below-marks}
use Rattle.stream_laws.proofs.Marks.{IsInTurn, IsNext, IsServed, marked_below, reach}

-- positions that come next are within the list
pub within-next : (marks : List Bool) (a : ℕ) (positions : List ℕ) → IsNext marks a positions → AllByRecursion (λ q. q < length marks) positions
within-next marks a [] next = tt
within-next marks a (q ∷ positions) next = (marked-within marks q next.2, within-next marks (suc q) positions next.3)

-- so are all that are marked
pub within-below : (marks : List Bool) (n : ℕ) → AllByRecursion (λ q. q < length marks) (marked_below marks n)
within-below marks zero = tt
within-below marks (suc n) =
    cond_both (get_or marks n false) _ _ (AllByRecursion (λ q. q < length marks))
    (λ marked. All-append (λ q. q < length marks) (marked_below marks n) (n ∷ []) (within-below marks n) (marked-within marks n marked, tt))
    (λ _. within-below marks n)

-- so are the handled ones, and what they reach
pub within-handled : (marks : List Bool) (handled running : List ℕ) → IsInTurn marks handled running → AllByRecursion (λ q. q < length marks) handled
within-handled marks handled running in_turn = subst (AllByRecursion (λ q. q < length marks)) (sym in_turn.first) (within-below marks (past handled))

pub past-handled : (marks : List Bool) (handled running : List ℕ) → IsInTurn marks handled running → past handled ≤ length marks
past-handled marks handled running in_turn = past_from-within 0 (length marks) handled (omega arith) (within-handled marks handled running in_turn)

-- ---- more marks at the end

module _ (marks more : List Bool) where
  pub IsInTurn-marks : (handled running : List ℕ) → IsInTurn marks handled running → IsInTurn (marks ++ more) handled running
  IsInTurn-marks handled running in_turn =
      record {
        first = in_turn.first ∙ sym (marked_below-marks marks more (past handled) (past-handled marks handled running in_turn));
        next = IsNext-marks marks more (past handled) running in_turn.next;
      }

  pub IsServed-marks : (handled on_way : List ℕ) (resume cursor low : ℕ) → IsServed marks handled on_way resume cursor low → IsServed (marks ++ more) handled on_way resume cursor low
  IsServed-marks handled on_way resume cursor low served =
      let below = served.resume_cursor in
      let end = served.cursor_end in
      record {
        covering = IsCovering-marks marks more (past handled) on_way served.covering;
        sent = IsClear-marks marks more (reach (past handled) on_way) cursor end served.sent;
        safe = IsClear-marks marks more (past handled) resume (omega arith) served.safe;
        low_resume = served.low_resume;
        resume_cursor = below;
        cursor_end = omega (arith, length-append marks more);
      }

-- ---- more events at the end

pub marks_of-append : (stream : StreamId) (start : Token) (log more : List Event) → marks_of stream start (log ++ more) ≡ marks_of stream start log ++ marks_of stream start more
marks_of-append stream start log more = map-append (λ event. is_owed stream start event) log more

pub events_at-grown : (log more : List Event) (positions : List ℕ) → AreIn log positions → events_at (log ++ more) positions ≡ events_at log positions
events_at-grown log more [] within = refl
events_at-grown log more (q ∷ positions) within =
    let here = get_or_append_left log more no_event q within.0 in
    let rest = events_at-grown log more positions within.1 in
    λ i. here i ∷ rest i
