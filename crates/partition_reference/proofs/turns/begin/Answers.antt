use Rattle.partition_reference.proofs.Prelude.{sym, ap, ◌∙◌, begin-unknown, begin-known, grain_at, begin_in}
use Rattle.partition_reference.proofs.turns.begin.Goals as goal

pub returns-in_default : goal.returns-in_default
returns-in_default c = begin-unknown c.args.p.now c.args.grain c.args.max (sym c.place_of_grain.ensures ∙ c.in_default.is)

pub returns : goal.returns
returns c =
    let p = c.args.p.now in
    c.begin_in.ensures
    ∙ (ap (λ n. begin_in p c.args.grain n (grain_at p c.args.grain)) c.turn_size.ensures ∙ begin-known p c.args.grain c.args.max)
