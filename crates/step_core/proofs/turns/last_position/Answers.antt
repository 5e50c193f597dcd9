use Rattle.step_core.proofs.Prelude.{◌<◌, length, pred, sym, ap, ◌∙◌, arith, past-last, past}
use Rattle.step_core.proofs.turns.last_position.Goals as goal

pub returns : goal.returns
returns c =
    let xs = c.as_slice-positions.result.now in
    let some : 0 < length xs = omega (arith, ap length c.as_slice-positions.ensures.values) in
    sym (ap (λ xs. pred (past xs)) (sym c.as_slice-positions.ensures.values) ∙ ap pred (past-last xs some))
