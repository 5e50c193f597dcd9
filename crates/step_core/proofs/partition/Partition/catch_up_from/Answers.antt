use Rattle.step_core.proofs.Prelude.{◌<◌, ℕ, refl, sym, subst, arith, IfSome, PlainPartition, name_at}
use Rattle.step_core.specs.PlainOf.{plain_of}
use Rattle.step_core.specs.Serving.{name_of, CatchesUpFrom}
use Rattle.step_core.proofs.CatchOps.{count-is, name-is}
use Rattle.step_core.proofs.CatchRuns.{caught-by}
use Rattle.step_core.proofs.partition.Partition.catch_up_from.Goals as goal

pub catch_up_from-requires-clause-number : goal.catch_up_from-requires-clause-number
catch_up_from-requires-clause-number c = omega (arith, c.requires, count-is c.self.inside.parts c.args.self.now c.self.invariant c.self.view_is)

pub returns-clause-within : goal.returns-clause-within
returns-clause-within c =
    let new = c.catch_up_from.new.parts in
    subst (λ (count : ℕ). IfSome c.catch_up_from.result (λ last. last < count)) (sym (count-is new (plain_of new) c.catch_up_from.ensures.agrees refl)) c.catch_up_from.ensures.within

pub returns-clause-told : goal.returns-clause-told
returns-clause-told c =
    let parts = c.self.inside.parts in
    let new = plain_of c.catch_up_from.new.parts in
    subst (λ (p : PlainPartition). CatchesUpFrom (name_of p) p new c.args.number c.catch_up_from.result) c.self.view_is
    (caught-by (name_at parts.subs) (name_of (plain_of parts)) (λ number. sym (name-is parts number c.self.invariant)) (plain_of parts) new c.args.number c.catch_up_from.result c.catch_up_from.ensures.told)
