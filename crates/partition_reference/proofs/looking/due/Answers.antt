use Rattle.partition_reference.proofs.Prelude.{refl, sym, ◌∙◌, sub_lt, next-found, due-none, due-told, is_due}
use Rattle.partition_reference.proofs.looking.due.Goals as goal

pub returns-in-Some : goal.returns-in-Some
returns-in-Some c =
    let p = c.args.p.now in
    let next = next-found sub_lt c.args.after (is_due p) p.subs p.subs c.or.result c.least_due.result c.least_due-2.result refl c.or.ensures c.least_due.ensures c.least_due-2.ensures in
    due-told p c.args.after c.in-Some.sub c.to_acknowledge.result (sym c.in-Some.is ∙ next) c.to_acknowledge.ensures

pub returns-in-None : goal.returns-in-None
returns-in-None c =
    let p = c.args.p.now in
    let next = next-found sub_lt c.args.after (is_due p) p.subs p.subs c.or.result c.least_due.result c.least_due-2.result refl c.or.ensures c.least_due.ensures c.least_due-2.ensures in
    due-none p c.args.after (sym c.in-None.is ∙ next)
