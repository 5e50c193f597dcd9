use Rattle.partition_reference.proofs.Prelude.{◌≡◌, ◌-◌, length, Some, sym, ap, ◌∙◌, nat_lt, arith, ℕ, nat_le, suc, slice_get_within, same_Some, slice_get-get_or, slice_get, past-last, past}
use Rattle.std.proofs.lemmas.Bool.Decides.{nat_tests}
use Rattle.partition_reference.proofs.records.is_handled.Goals as goal

-- a position is below one more where it isn't past it
leb-suc : (a b : ℕ) → nat_le a b ≡ nat_lt a (suc b)
leb-suc a b = grind (arith, nat_tests)

pub returns-in-Some : goal.returns-in-Some
returns-in-Some c =
    let xs = c.as_slice.result.now in
    let last = c.in-Some.last.now in
    let is_last : slice_get xs (length xs - 1) ≡ Some last = sym (c.in-Some.ensures.value) in
    let within = slice_get_within xs (length xs - 1) last is_last in
    let past_last = past-last xs (omega arith) ∙ ap suc (same_Some _ _ (sym (slice_get-get_or xs (length xs - 1) 0 within) ∙ is_last)) in
    leb-suc c.args.position last ∙ (sym (ap (nat_lt c.args.position) (past_last)) ∙ ap (λ xs. nat_lt c.args.position (past xs)) c.as_slice.ensures)
