-- Beginnings of a history, and a history with one more entry.
use Rattle.turnstile.proofs.Prelude.{◌≡◌, ℕ, ◌<◌, ◌≤◌, ◌⊎◌, ⊎_elim, inl, inr, ltb, List, [], ◌∷◌, ◌++◌, length, get_or, drop, refl, sym, ap, ◌∙◌, subst, arith, append_assoc, append-nil}
use Rattle.std.proofs.lemmas.Bool.{cond_both, ltb-true, ltb-false}
use Rattle.turnstile.specs.declared.history.Entry.{Entry}
use Rattle.turnstile.specs.declared.view.Claim.{Claim}
use Rattle.turnstile.specs.History.{times, replay, IsLegal, Foreign, Own, Drawn, Claims, longer}
use Rattle.turnstile.specs.Turns.{AllClaim}
use Rattle.turnstile.proofs.Totals.{times_else, times-append, Contains-times, times_contained, absent-times, times_absent}

module _ {S O R : Type 0} (reply : S → O → R) (after : S → O → S) where
  pub replay_snoc : (s : S) (log : List (Entry O R)) (e : Entry O R) → replay reply after s (log ++ e ∷ []) ≡ after (replay reply after s log) e.op
  replay_snoc s [] e = refl
  replay_snoc s (x ∷ xs) e = replay_snoc (after s x.op) xs e

  pub legal_snoc : (s : S) (log : List (Entry O R)) (e : Entry O R) → IsLegal reply after s log → e.reply ≡ reply (replay reply after s log) e.op → IsLegal reply after s (log ++ e ∷ [])
  legal_snoc s [] e legal right = (right, tt)
  legal_snoc s (x ∷ xs) e legal right = (legal.0, legal_snoc (after s x.op) xs e legal.1 right)

  -- the last call got the reply that it gets there
  pub legal_last : (s : S) (log : List (Entry O R)) (e : Entry O R) → IsLegal reply after s (log ++ e ∷ []) → e.reply ≡ reply (replay reply after s log) e.op
  legal_last s [] e legal = legal.0
  legal_last s (x ∷ xs) e legal = legal_last (after s x.op) xs e legal.1

module _ {O R : Type 0} where
  pub foreign-append : (numbers : List ℕ) (xs ys : List (Entry O R)) → Foreign numbers xs → Foreign numbers ys → Foreign numbers (xs ++ ys)
  foreign-append numbers [] ys f g = g
  foreign-append numbers (x ∷ xs) ys f g = (f.0, foreign-append numbers xs ys f.1 g)

  pub foreign_tail : (numbers : List ℕ) (xs ys : List (Entry O R)) → Foreign numbers (xs ++ ys) → Foreign numbers ys
  foreign_tail numbers [] ys f = f
  foreign_tail numbers (x ∷ xs) ys f = foreign_tail numbers xs ys f.1

  pub foreign_front : (numbers : List ℕ) (xs ys : List (Entry O R)) → Foreign numbers (xs ++ ys) → Foreign numbers xs
  foreign_front numbers [] ys f = tt
  foreign_front numbers (x ∷ xs) ys f = (f.0, foreign_front numbers xs ys f.1)

  pub foreign_both : (numbers others : List ℕ) (xs : List (Entry O R)) → Foreign numbers xs → Foreign others xs → Foreign (numbers ++ others) xs
  foreign_both numbers others [] f g = tt
  foreign_both numbers others (x ∷ xs) f g =
      (absent-times (numbers ++ others) x.number (omega (arith, times_absent numbers x.number f.0, times_absent others x.number g.0, times-append x.number numbers others)), foreign_both numbers others xs f.1 g.1)

  -- with fewer numbers
  pub foreign_fewer : (fewer numbers : List ℕ) (xs : List (Entry O R)) → ((k : ℕ) → times k fewer ≤ times k numbers) → Foreign numbers xs → Foreign fewer xs
  foreign_fewer fewer numbers [] less f = tt
  foreign_fewer fewer numbers (x ∷ xs) less f = (absent-times fewer x.number (omega (arith, times_absent numbers x.number f.0, less x.number)), foreign_fewer fewer numbers xs less f.1)

  -- no entry has a number, where there is none
  pub foreign_none : (xs : List (Entry O R)) → Foreign [] xs
  foreign_none [] = tt
  foreign_none (x ∷ xs) = (absent-times [] x.number refl, foreign_none xs)

  -- no entry has a number that is not drawn yet
  pub foreign_fresh : (n : ℕ) (xs : List (Entry O R)) → Drawn n xs → Foreign (n ∷ []) xs
  foreign_fresh n [] d = tt
  foreign_fresh n (x ∷ xs) d = (absent-times (n ∷ []) x.number (times_else x.number n [] (λ e. omega (arith, d.0, e))), foreign_fresh n xs d.1)

  pub drawn_more : (n m : ℕ) (xs : List (Entry O R)) → n ≤ m → Drawn n xs → Drawn m xs
  drawn_more n m [] le d = tt
  drawn_more n m (x ∷ xs) le d = (omega (arith, d.0, le), drawn_more n m xs le d.1)

  pub drawn_snoc : (n : ℕ) (xs : List (Entry O R)) (e : Entry O R) → Drawn n xs → e.number < n → Drawn n (xs ++ e ∷ [])
  drawn_snoc n [] e d l = (l, tt)
  drawn_snoc n (x ∷ xs) e d l = (d.0, drawn_snoc n xs e d.1 l)

  -- entries that have one of the numbers and none of them are none
  pub own_foreign : (numbers : List ℕ) (seen xs : List (Entry O R)) → Own numbers (seen ++ xs) → Foreign numbers xs → xs ≡ []
  own_foreign numbers [] [] own f = refl
  own_foreign numbers [] (x ∷ xs) own f = absurd (f.0 own.0)
  own_foreign numbers (e ∷ seen) xs own f = own_foreign numbers seen xs own.1 f

  pub own_drawn : (numbers : List ℕ) (n : ℕ) (xs : List (Entry O R)) → ((k : ℕ) → k < n → 0 < times k numbers) → Drawn n xs → Own numbers xs
  own_drawn numbers n [] each d = tt
  own_drawn numbers n (x ∷ xs) each d = (Contains-times numbers x.number (each x.number d.0), own_drawn numbers n xs each d.1)

  -- with the same numbers, counted
  pub own_same : (numbers others : List ℕ) (xs : List (Entry O R)) → ((k : ℕ) → times k others ≡ times k numbers) → Own numbers xs → Own others xs
  own_same numbers others [] same own = tt
  own_same numbers others (x ∷ xs) same own = (Contains-times others x.number (omega (arith, times_contained numbers x.number own.0, same x.number)), own_same numbers others xs same own.1)

  pub claims_same : (numbers : List ℕ) (seen log : List (Entry O R)) → seen ≡ log → Claims numbers seen log
  claims_same numbers seen log e = record { rest = []; is = sym e ∙ sym (append-nil seen); foreign = tt }

  pub claims_extend : (numbers : List ℕ) (seen log more : List (Entry O R)) → Claims numbers seen log → Foreign numbers more → Claims numbers seen (log ++ more)
  claims_extend numbers seen log more c f = record {
    rest = c.rest ++ more;
    is = ap (λ l. l ++ more) c.is ∙ append_assoc seen c.rest more;
    foreign = foreign-append numbers c.rest more c.foreign f;
  }

  -- of two beginnings of one list the shorter begins the longer
  pub cut : (b r s rest : List (Entry O R)) → b ++ r ≡ s ++ rest → length s ≤ length b → (t : List (Entry O R)) × (b ≡ s ++ t) × (rest ≡ t ++ r)
  cut b r [] rest e le = (b, refl, sym e)
  cut [] r (x ∷ s) rest e le = absurd (omega (arith, le))
  cut (y ∷ b) r (x ∷ s) rest e le =
      let heads : y ≡ x = ap (λ (l : List (Entry O R)). get_or l 0 y) e in
      let tails : b ++ r ≡ s ++ rest = ap (λ (l : List (Entry O R)). drop 1 l) e in
      let h = cut b r s rest tails (omega (arith, le)) in
      (h.0, (λ i. heads i ∷ h.1 i), h.2)

  -- a beginning that is no longer than another begins it
  pub claims_cut : (numbers : List ℕ) (seen log b r : List (Entry O R)) → Claims numbers seen log → log ≡ b ++ r → length seen ≤ length b → Claims numbers seen b
  claims_cut numbers seen log b r c is le =
      let h = cut b r seen c.rest (sym is ∙ c.is) le in
      record {
        rest = h.0;
        is = h.1;
        foreign = foreign_front numbers h.0 r (subst (Foreign numbers) h.2 c.foreign);
      }

  pub longer_is : (xs ys : List (Entry O R)) → (longer xs ys ≡ xs) × (length ys ≤ length xs) ⊎ (longer xs ys ≡ ys) × (length xs ≤ length ys)
  longer_is xs ys = cond_both (ltb (length xs) (length ys)) ys xs (λ l. (l ≡ xs) × (length ys ≤ length xs) ⊎ (l ≡ ys) × (length xs ≤ length ys))
      (λ less. inr (refl, omega (arith, ltb-true (length xs) (length ys) less))) (λ not. inl (refl, ltb-false (length xs) (length ys) not))

  pub longer_bounds : (xs ys : List (Entry O R)) → (length xs ≤ length (longer xs ys)) × (length ys ≤ length (longer xs ys))
  longer_bounds xs ys = ⊎_elim (λ t. rw t.0 (omega arith, t.1)) (λ t. rw t.0 (t.1, omega arith)) (longer_is xs ys)

  -- of two beginnings, no entry past the longer has a number of the shorter
  foreign_past : (numbers : List ℕ) (xs ys rest log : List (Entry O R)) → length xs ≤ length ys → Claims numbers xs log → log ≡ ys ++ rest → Foreign numbers rest
  foreign_past numbers xs ys rest log le c is = let h = cut ys rest xs c.rest (sym is ∙ c.is) le in foreign_tail numbers h.0 rest (subst (Foreign numbers) h.2 c.foreign)

  -- the longer of two beginnings, past which no entry has a number of either
  pub claims_longer : (numbers others : List ℕ) (xs ys log : List (Entry O R)) → Claims numbers xs log → Claims others ys log → Claims (numbers ++ others) (longer xs ys) log
  claims_longer numbers others xs ys log c d = ⊎_elim
      (λ t. rw t.0 record { rest = c.rest; is = c.is; foreign = foreign_both numbers others c.rest c.foreign (foreign_past others ys xs c.rest log t.1 d c.is) })
      (λ t. rw t.0 record { rest = d.rest; is = d.is; foreign = foreign_both numbers others d.rest (foreign_past numbers xs ys d.rest log t.1 c d.is) d.foreign })
      (longer_is xs ys)

  pub all_claim_extend : (numbers : List ℕ) (cs : List (Claim O R)) (log more : List (Entry O R)) → Foreign numbers more → AllClaim numbers cs log → AllClaim numbers cs (log ++ more)
  all_claim_extend numbers [] log more f a = tt
  all_claim_extend numbers (c ∷ cs) log more f a = (a.0, claims_extend c.numbers c.seen log more a.1 (foreign_fewer c.numbers numbers more a.0 f), all_claim_extend numbers cs log more f a.2)
