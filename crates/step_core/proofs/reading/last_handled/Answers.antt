use Rattle.step_core.proofs.Prelude.{◌≡◌, ◌∙◌, ap, sym, ◌-◌, length, None, Some, Option, arith, get_or_from_slice_get, slice_get, All-at, ◌<◌, Token}
use Rattle.std.proofs.lemmas.Option.{slice_get_within}
use Rattle.step_core.proofs.ReadLemmas.{last-told}
use Rattle.step_core.proofs.reading.last_handled.Goals as goal

pub returns-in_err-last : goal.returns-in_err-last
returns-in_err-last c =
    c.from_residual.ensures ∙ last-told c.args.parts.now c.args.sub.now c.handled_positions.result.now None c.handled_positions.ensures.positions c.in_err-last.ensures.value

pub token_at-requires : goal.token_at-requires
token_at-requires c =
    let xs = c.handled_positions.result.now in
    let last = c.in_ok-last.last.now in
    let is : slice_get xs (length xs - 1) ≡ Some last = sym c.in_ok-last.ensures.value in
    omega (arith, All-at (λ position. position < length c.args.parts.now.queue.events) xs (length xs - 1) 0 c.handled_positions.ensures.within (slice_get_within xs (length xs - 1) last is), get_or_from_slice_get xs (length xs - 1) last 0 is)

pub returns : goal.returns
returns c =
    ap {B = Option Token} Some c.token_at.ensures
    ∙ last-told c.args.parts.now c.args.sub.now c.handled_positions.result.now (Some c.in_ok-last.last.now) c.handled_positions.ensures.positions c.in_ok-last.ensures.value
