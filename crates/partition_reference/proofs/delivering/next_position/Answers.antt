use Rattle.partition_reference.proofs.Prelude.{◌<◌, length, get_or, sym, ap, ◌∙◌, arith, is_owed}
use Rattle.partition_reference.proofs.Handing.{first_between-found, first_between-more}
use Rattle.partition_reference.proofs.delivering.next_position.Goals as goal

pub returns-then-is_owed-clause-exact : goal.returns-then-is_owed-clause-exact
returns-then-is_owed-clause-exact c =
    let i = c.loop-position.position in
    let log = c.args.log.now in
    let e = c.index-events-position.result in
    let below : i < c.args.high = omega (arith, c.min-position-end.ensures) in
    let within : i < length log = omega (arith, c.min-position-end.ensures, ap length c.as_slice-events.ensures) in
    let read = c.index-events-position.is ∙ ap (λ xs. get_or xs i e) c.as_slice-events.ensures in
    sym (sym c.loop-position.invariant ∙ first_between-found (λ event. is_owed c.args.sub.now.stream c.args.sub.now.start event) log i c.args.high e below within read (sym c.is_owed.ensures ∙ c.if-is_owed.true))

pub loop-position-preserved : goal.loop-position-preserved
loop-position-preserved c =
    let i = c.loop-position.position in
    let log = c.args.log.now in
    let e = c.index-events-position.result in
    let below : i < c.args.high = omega (arith, c.min-position-end.ensures) in
    let within : i < length log = omega (arith, c.min-position-end.ensures, ap length c.as_slice-events.ensures) in
    let read = c.index-events-position.is ∙ ap (λ xs. get_or xs i e) c.as_slice-events.ensures in
    first_between-more (λ event. is_owed c.args.sub.now.stream c.args.sub.now.start event) log i c.args.high e below within read (sym c.is_owed.ensures ∙ c.if-is_owed.false)
    ∙ c.loop-position.invariant
