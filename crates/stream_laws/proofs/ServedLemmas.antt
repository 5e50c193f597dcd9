-- A subscription is in turn, and served while it is open, after each change of its record or its grain.
use Rattle.stream_laws.proofs.Prelude.{◌≡◌, ℕ, suc, ◌<◌, ◌≤◌, max, Bool, true, false, List, [], ◌∷◌, ◌++◌, length, get_or, sym, ap, subst, ◌∙◌, arith, past}
use Rattle.stream_laws.proofs.MarkLemmas.{IsClear-join, IsClear-max, IsClear-none, IsClear-within, IsCovering-push, IsCovering-repeat, IsCovering-second, IsNext-reach, marked-within, marked_below-next, past-append, past_from-le, reach-append, reach-le, reach-push, reach-repeat}
use Rattle.stream_laws.proofs.Marks.{IsClear, IsCovering, IsInTurn, IsNext, IsServed, marked_below, reach}

-- the running positions are handled
pub in_turn-handled : (marks : List Bool) (handled running : List ℕ) → IsInTurn marks handled running → IsInTurn marks (handled ++ running) []
in_turn-handled marks handled running in_turn =
    record {
      first = ap (λ front. front ++ running) in_turn.first
          ∙ marked_below-next marks (past handled) running in_turn.next
          ∙ ap (marked_below marks) (sym (past-append handled running));
      next = tt;
    }

-- the cursor goes back to the resume
pub served-rewound : (marks : List Bool) (handled on_way : List ℕ) (resume cursor low : ℕ) → IsServed marks handled on_way resume cursor low → IsServed marks handled on_way resume resume low
served-rewound marks handled on_way resume cursor low served =
    record {
      covering = served.covering;
      sent = IsClear-within marks (past handled) (reach (past handled) on_way) resume resume served.safe (reach-le (past handled) on_way) (omega arith);
      safe = served.safe;
      low_resume = served.low_resume;
      resume_cursor = omega arith;
      cursor_end = omega (arith, served.resume_cursor, served.cursor_end);
    }

-- the next marked position from the cursor on is sent
pub served-sent : (marks : List Bool) (handled on_way : List ℕ) (resume cursor low position : ℕ)
    → IsClear marks cursor position → get_or marks position false ≡ true → cursor ≤ position
    → IsServed marks handled on_way resume cursor low → IsServed marks handled (on_way ++ position ∷ []) resume (suc position) low
served-sent marks handled on_way resume cursor low position clear marked le served =
    let a = past handled in
    let before = IsClear-join marks (reach a on_way) cursor position served.sent clear in
    let reached = reach-push a position on_way in
    record {
      covering = IsCovering-push marks a position on_way served.covering before marked;
      sent = IsClear-none marks (reach a (on_way ++ position ∷ [])) (suc position) (omega (arith, reached));
      safe = served.safe;
      low_resume = served.low_resume;
      resume_cursor = omega (arith, served.resume_cursor);
      cursor_end = marked-within marks position marked;
    }

-- nothing marked is from the cursor up to high
pub served-seen : (marks : List Bool) (handled on_way : List ℕ) (resume cursor low high : ℕ)
    → IsClear marks cursor high → high ≤ length marks
    → IsServed marks handled on_way resume cursor low → IsServed marks handled on_way resume (max cursor high) low
served-seen marks handled on_way resume cursor low high clear le served =
    record {
      covering = served.covering;
      sent = IsClear-max marks (reach (past handled) on_way) cursor high served.sent (IsClear-join marks (reach (past handled) on_way) cursor high served.sent clear);
      safe = served.safe;
      low_resume = served.low_resume;
      resume_cursor = omega (arith, served.resume_cursor);
      cursor_end = omega (arith, served.cursor_end);
    }

-- with nothing on its way the resume follows the cursor
pub served-idle : (marks : List Bool) (handled : List ℕ) (resume cursor low : ℕ)
    → IsServed marks handled [] resume cursor low → IsServed marks handled [] cursor cursor low
served-idle marks handled resume cursor low served =
    record {
      covering = tt;
      sent = served.sent;
      safe = served.sent;
      low_resume = omega (arith, served.low_resume, served.resume_cursor);
      resume_cursor = omega arith;
      cursor_end = served.cursor_end;
    }

-- a handled position is acknowledged
pub served-acked : (marks : List Bool) (handled on_way : List ℕ) (resume cursor low position : ℕ)
    → position < past handled → get_or marks position false ≡ true
    → IsServed marks handled on_way resume cursor low
    → IsServed marks handled on_way (max resume (suc position)) (max cursor (max resume (suc position))) low
served-acked marks handled on_way resume cursor low position below marked served =
    let a = past handled in
    let far = reach-le a on_way in
    let within = marked-within marks position marked in
    record {
      covering = served.covering;
      sent = λ q from to. served.sent q from (omega (arith, served.resume_cursor));
      safe = λ q from to. served.safe q from (omega arith);
      low_resume = omega (arith, served.low_resume);
      resume_cursor = omega arith;
      cursor_end = omega (arith, served.resume_cursor, served.cursor_end);
    }

-- a repeat at the front is dropped
pub served-repeat : (marks : List Bool) (handled on_way : List ℕ) (resume cursor low position : ℕ)
    → position < past handled
    → IsServed marks handled (position ∷ on_way) resume cursor low → IsServed marks handled on_way resume cursor low
served-repeat marks handled on_way resume cursor low position below served =
    record {
      covering = IsCovering-repeat marks (past handled) position on_way below served.covering;
      sent = subst (λ n. IsClear marks n cursor) (reach-repeat (past handled) position on_way below) served.sent;
      safe = served.safe;
      low_resume = served.low_resume;
      resume_cursor = served.resume_cursor;
      cursor_end = served.cursor_end;
    }

-- the running positions, which are at the front, are handled
pub served-handled : (marks : List Bool) (handled running waiting : List ℕ) (resume cursor low : ℕ)
    → IsNext marks (past handled) running
    → IsServed marks handled (running ++ waiting) resume cursor low → IsServed marks (handled ++ running) waiting resume cursor low
served-handled marks handled running waiting resume cursor low next served =
    let a = past handled in
    let now : reach a running ≡ past (handled ++ running) = IsNext-reach marks a running next ∙ sym (past-append handled running) in
    let far = past_from-le marks a running next in
    record {
      covering = subst (λ n. IsCovering marks n waiting) now (IsCovering-second marks a running waiting served.covering);
      sent = subst (λ n. IsClear marks n cursor) (reach-append a running waiting ∙ ap (λ n. reach n waiting) now) served.sent;
      safe = IsClear-within marks a (past (handled ++ running)) resume resume served.safe (omega (arith, past-append handled running)) (omega arith);
      low_resume = served.low_resume;
      resume_cursor = served.resume_cursor;
      cursor_end = served.cursor_end;
    }
