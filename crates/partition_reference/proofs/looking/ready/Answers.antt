use Rattle.partition_reference.proofs.Prelude.{◌&&◌, not, Some, None, sym, ◌∙◌, grain_lt, next-found, ready-told, is_running, is_waiting, Grain}
use Rattle.partition_reference.proofs.looking.ready.Goals as goal

pub returns-in-Some : goal.returns-in-Some
returns-in-Some c =
    let p = c.args.p.now in
    let next = next-found grain_lt c.args.after (λ (st : Grain). is_waiting st && not (is_running st)) p.grains c.as_slice-grains.result.now c.or.result c.least_ready.result c.least_ready-2.result c.as_slice-grains.ensures c.or.ensures c.least_ready.ensures c.least_ready-2.ensures in
    ready-told p c.args.after (Some c.in-Some.grain) (sym c.in-Some.is ∙ next)

pub returns-in-None : goal.returns-in-None
returns-in-None c =
    let p = c.args.p.now in
    let next = next-found grain_lt c.args.after (λ (st : Grain). is_waiting st && not (is_running st)) p.grains c.as_slice-grains.result.now c.or.result c.least_ready.result c.least_ready-2.result c.as_slice-grains.ensures c.or.ensures c.least_ready.ensures c.least_ready-2.ensures in
    ready-told p c.args.after None (sym c.in-None.is ∙ next)
