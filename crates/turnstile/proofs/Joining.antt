-- A pass that takes in another.
use Rattle.turnstile.proofs.Prelude.{TableId, ◌≡◌, ℕ, List, [], ◌∷◌, drop, ap, ◌∙◌, subst, arith}
use Rattle.turnstile.specs.declared.history.Entry.{Entry}
use Rattle.turnstile.specs.declared.view.View.{View}
use Rattle.turnstile.specs.History.{times, ShareNone, Claims, longer}
use Rattle.turnstile.specs.Calls.{Agree}
use Rattle.turnstile.specs.Passes.{PassView, pass_view}
use Rattle.turnstile.specs.Plays.{Sat, Told}
use Rattle.turnstile.specs.Turns.{joined}
use Rattle.turnstile.proofs.Histories.{claims_cut, longer_bounds}
use Rattle.turnstile.proofs.Totals.{times-append, times_contained}

module _ {S O R : Type 0} where
  told_both : (v w : View S O R) (xs ys : List ℕ) (seen : List (Entry O R)) → v.numbers ≡ xs → w.numbers ≡ ys → seen ≡ longer v.seen w.seen → Told (joined v w) → Claims xs v.seen seen × Claims ys w.seen seen × ShareNone xs ys
  told_both v w xs ys seen one other is told =
      let bounds = longer_bounds v.seen w.seen in (
        rw (← one, is) (claims_cut v.numbers v.seen told.log (longer v.seen w.seen) told.seen.rest told.past.1 told.seen.is bounds.0),
        rw (← other, is) (claims_cut w.numbers w.seen told.log (longer v.seen w.seen) told.seen.rest told.past.2.1 told.seen.is bounds.1),
        (λ k a b. omega (arith, told.once k, times-append k v.numbers w.numbers, ap (times k) one, ap (times k) other, times_contained xs k a, times_contained ys k b)),
      )

module _ {X H S O R : Type 0} where
  -- m is the seat after the join, and n once it was told what stands
  pub agree : (p q : PassView O R S) (z y x : TableId) (v w : View S O R) (k j : ℕ) (m n : Sat X H S O R) → pass_view z v k ≡ p → pass_view y w j ≡ q → v.numbers ≡ k ∷ drop 1 v.numbers → w.numbers ≡ j ∷ drop 1 w.numbers
      → m.0 ≡ joined v w → n ≡ (record m.0 { past = [] }, m.1) → Told m.0 → Agree p q (pass_view x n.0 k)
  agree p q z y x v w k j m n one other named other_named is tell told =
      let seen : n.0.seen ≡ longer v.seen w.seen = ap (λ (z : Sat X H S O R). z.0.seen) tell ∙ ap (λ (z : View S O R). z.seen) is in
      subst (λ (r : PassView O R S). Agree r q (pass_view x n.0 k)) one (subst (λ (r : PassView O R S). Agree (pass_view z v k) r (pass_view x n.0 k)) other
      (told_both v w (k ∷ drop 1 v.numbers) (j ∷ drop 1 w.numbers) n.0.seen named other_named seen (subst Told is told)))
