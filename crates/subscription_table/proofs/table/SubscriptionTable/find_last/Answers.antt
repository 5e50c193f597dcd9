use Rattle.subscription_table.proofs.Prelude.{◌≡◌, ◌∙◌, ap, sym, subst, refl, ℕ, Bool, true, false, Option, Some, arith, IfSome, sub_equal-is, same_sub, SubName}
use Rattle.std.specs.Bool.{then_some}
use Rattle.subscription_table.specs.Table.{number_of}
use Rattle.subscription_table.proofs.CloseLemmas.{number-there}
use Rattle.subscription_table.proofs.table.SubscriptionTable.find_last.Goals as goal

by-test : (b : Bool) (number : ℕ) (found : Option ℕ) (P : ℕ → Type 0) → found ≡ then_some b number → (b ≡ true → P number) → IfSome found P
by-test true number found P is holds = subst (λ (o : Option ℕ). IfSome o P) (sym is) (holds refl)
by-test false number found P is holds = subst (λ (o : Option ℕ). IfSome o P) (sym is) tt

pub returns-clause-number : goal.returns-clause-number
returns-clause-number c =
    let s = c.args.sub.now in
    let old = c.args.self.now in
    let tested : c.eq.result ≡ same_sub s c.name.result = subst (λ (same : SubName → SubName → Bool). c.eq.result ≡ same s c.name.result) sub_equal-is c.eq.ensures in
    by-test c.eq.result c.self.inside.last c.then_some.result (λ number. Some number ≡ number_of old s) c.then_some.ensures
    (λ same. number-there old.registry.names s c.self.inside.last c.len.ensures.unique (omega (arith, c.len.ensures.len)) (ap (same_sub s) (sym c.name.ensures) ∙ sym tested ∙ same))
