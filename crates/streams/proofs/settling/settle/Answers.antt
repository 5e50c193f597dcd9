use Rattle.streams.proofs.Prelude.{◌≡◌, ◌≢◌, ◌∙◌, Ok, Err, arith, inl, inr, refl, sym, err_from_is_err_and}
use Rattle.streams.specs.Settling.{Settles}
use Rattle.streams.proofs.Rounds.{one-more, quiet-ended}
use Rattle.streams.proofs.settling.settle.Goals as goal

pub returns-in_err-settled-clause-settles : goal.returns-in_err-settled-clause-settles
returns-in_err-settled-clause-settles g c =
    let looks = c.args.looks in
    let round = c.loop-round._round in
    let now = c.loop-round.caller in
    let new = c.drain.new.caller in
    let e = c.in_err-settled.field-0.0 in
    let p = err_from_is_err_and c.from_residual.result c.from_residual.ensures.1 in
    rw (p.1, p.2)
    (c.loop-round.invariant.rest (Err e) new (one-more (λ k. Settles k looks now (Err e) new) looks round (omega (arith, c.loop-round-test.true))
    (c.count_batches-before.result, c.count_batches-before.new.caller, c.count_batches-before.ensures.counts, inl (c.drain.result, e, c.drain.ensures.ends, sym c.in_err-settled.ensures, refl))))

pub returns-then-count_batches-before-clause-settles : goal.returns-then-count_batches-before-clause-settles
returns-then-count_batches-before-clause-settles g c =
    let looks = c.args.looks in
    let round = c.loop-round._round in
    let now = c.loop-round.caller in
    let before = c.count_batches-before.new.caller in
    let new = c.count_batches.new.caller in
    let same : c.count_batches.result ≡ c.count_batches-before.result = omega (arith, c.if-count_batches-before.true) in
    let quiet = rw (quiet-ended c.drain.result c.in_ok-settled.field-0 c.in_ok-settled.ensures) at c.drain.ensures.ends in
    c.loop-round.invariant.rest (Ok tt) new (one-more (λ k. Settles k looks now (Ok tt) new) looks round (omega (arith, c.loop-round-test.true))
    (c.count_batches-before.result, before, c.count_batches-before.ensures.counts, inr (c.drain.new.caller, c.count_batches.result, new, quiet, c.count_batches.ensures.counts, inl (same, refl, refl))))

pub loop-round-preserved : goal.loop-round-preserved
loop-round-preserved g c =
    let looks = c.args.looks in
    let round = c.loop-round._round in
    let now = c.loop-round.caller in
    let before = c.count_batches-before.new.caller in
    let others : c.count_batches.result ≢ c.count_batches-before.result = λ is. absurd (omega (arith, is, c.if-count_batches-before.false)) in
    let quiet = rw (quiet-ended c.drain.result c.in_ok-settled.field-0 c.in_ok-settled.ensures) at c.drain.ensures.ends in
    record {
      at = c.count_batches.ensures.turnstiles ∙ (c.drain.ensures.turnstiles ∙ (c.count_batches-before.ensures.turnstiles ∙ c.loop-round.invariant.at));
      rest = λ result new more.
          c.loop-round.invariant.rest result new (one-more (λ k. Settles k looks now result new) looks round (omega (arith, c.loop-round-test.true))
          (c.count_batches-before.result, before, c.count_batches-before.ensures.counts, inr (c.drain.new.caller, c.count_batches.result, c.count_batches.new.caller, quiet, c.count_batches.ensures.counts, inr (others, more))));
    }
