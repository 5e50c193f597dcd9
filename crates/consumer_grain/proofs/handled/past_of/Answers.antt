use Rattle.std.proofs.Common.{◌≡◌, ◌+◌, ◌-◌, ◌<◌, suc, length, get_or, sym, ap, ◌∙◌, arith}
use Rattle.stream_ident.specs.Words.{past}
use Rattle.stream_ident.proofs.WordLemmas.{past-last}
use Rattle.consumer_grain.proofs.handled.past_of.Goals as goal

pub overflow_add-result : goal.overflow_add-result
overflow_add-result c =
    let xs = c.as_slice-positions.result.now in
    let some : 0 < length xs = omega (arith, ap length c.as_slice-positions.ensures.values) in
    omega (arith, past-last xs some, ap past c.as_slice-positions.ensures.values, c.requires)

pub returns : goal.returns
returns c =
    let xs = c.as_slice-positions.result.now in
    let some : 0 < length xs = omega (arith, ap length c.as_slice-positions.ensures.values) in
    let next : get_or xs (length xs - 1) 0 + 1 ≡ suc (get_or xs (length xs - 1) 0) = omega arith in
    next ∙ (sym (past-last xs some) ∙ ap past c.as_slice-positions.ensures.values)
