use Rattle.partition_reference.proofs.Prelude.{sym, ap, ◌∙◌, same_sub, place_of-none, to_acknowledge}
use Rattle.partition_reference.proofs.looking.to_acknowledge.Goals as goal

pub returns-in_default : goal.returns-in_default
returns-in_default c =
    let p = c.args.p.now in
    sym (ap (to_acknowledge p) (place_of-none same_sub c.args.name.now p.subs (sym c.place_of_sub.ensures ∙ c.in_default.is)))
