use Rattle.partition_reference.proofs.Prelude.{◌∙◌, ap, sym, not, both_ways, not-true, not-false, flat_map, all_implied, implied}
use Rattle.partition_reference.proofs.ImpliedNames.{new-at-last, known-there, known-made}
use Rattle.partition_reference.proofs.pulling.is_new.Goals as goal
use Rattle.partition_reference.proofs.pulling.is_new.Goals.{then-not-is_there, else-not-is_there}

pub returns-then-not-makes : goal.returns-then-not-makes
returns-then-not-makes c = λ position.
    let earlier = all_implied c.args.rules.now position c.args.earlier.now in
    let here = flat_map (implied position c.args.event.now) c.args.before.now in
    elim c.if-not-is_there.branch [
      | then-not-is_there w ↦ ap not (c.makes_of_event.ensures position) ∙ new-at-last c.args.name.now c.args.subs.now earlier here (sym c.is_there.ensures ∙ w.if-not-is_there.true) (sym (w.makes.ensures position) ∙ not-true _ (sym w.value-is ∙ c.if-not-makes.true))
      | else-not-is_there w ↦ absurd (both_ways _ (not-true _ (sym w.value-is ∙ c.if-not-makes.true)) w.if-not-is_there.false)
    ]

pub returns-else-not-makes : goal.returns-else-not-makes
returns-else-not-makes c = λ position.
    let earlier = all_implied c.args.rules.now position c.args.earlier.now in
    let here = flat_map (implied position c.args.event.now) c.args.before.now in
    elim c.if-not-is_there.branch [
      | then-not-is_there w ↦ c.if-not-makes.false ∙ known-made c.args.name.now c.args.subs.now earlier here (sym c.is_there.ensures ∙ w.if-not-is_there.true) (sym (w.makes.ensures position) ∙ not-false _ (sym w.value-is ∙ c.if-not-makes.false))
      | else-not-is_there w ↦ c.if-not-makes.false ∙ known-there c.args.name.now c.args.subs.now earlier here (sym c.is_there.ensures ∙ w.if-not-is_there.false)
    ]
