use Rattle.partition_reference.proofs.Prelude.{◌≡◌, ◌-◌, length, pred, Some, sym, ap, ◌∙◌, arith, suc, slice_get_within, same_Some, slice_get-get_or, slice_get, past-last, past}
use Rattle.partition_reference.proofs.records.last_handled.Goals as goal

pub returns-in-Some : goal.returns-in-Some
returns-in-Some c =
    let xs = c.as_slice.result.now in
    let last = c.in-Some.last.now in
    let is_last : slice_get xs (length xs - 1) ≡ Some last = sym (c.in-Some.ensures.value) in
    let within = slice_get_within xs (length xs - 1) last is_last in
    let past_last = past-last xs (omega arith) ∙ ap suc (same_Some _ _ (sym (slice_get-get_or xs (length xs - 1) 0 within) ∙ is_last)) in
    sym (ap pred (past_last)) ∙ ap (λ xs. pred (past xs)) c.as_slice.ensures
