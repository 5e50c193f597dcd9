use Rattle.step_core.proofs.Prelude.{◌≡◌, ◌∙◌, ◌<◌, ℕ, ap, sym, subst, option_map, IfSome, PlainPartition}
use Rattle.step_core.specs.PlainOf.{plain_of}
use Rattle.step_core.specs.Serving.{name_of, next_due}
use Rattle.step_core.proofs.CatchOps.{count-is, option-name-is}
use Rattle.step_core.proofs.partition.Partition.next_due.Goals as goal

pub next_due-requires-clause-after : goal.next_due-requires-clause-after
next_due-requires-clause-after c =
    subst (λ (count : ℕ). IfSome c.args.after (λ number. number < count)) (count-is c.self.inside.parts c.args.self.now c.self.invariant c.self.view_is) c.requires

pub returns-clause-next : goal.returns-clause-next
returns-clause-next c =
    let parts = c.self.inside.parts in
    let p = plain_of parts in
    subst (λ (q : PlainPartition). option_map (name_of q) c.next_due.result ≡ next_due q (option_map (name_of q) c.args.after)) c.self.view_is
    (option-name-is parts c.next_due.result c.self.invariant ∙ c.next_due.ensures.next ∙ ap (next_due p) (sym (option-name-is parts c.args.after c.self.invariant)))

pub returns-clause-within : goal.returns-clause-within
returns-clause-within c =
    subst (λ (count : ℕ). IfSome c.next_due.result (λ number. number < count)) (sym (count-is c.self.inside.parts c.args.self.now c.self.invariant c.self.view_is)) c.next_due.ensures.within
