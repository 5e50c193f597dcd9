-- Which of the numbers, or of the tickets, are out, after each kind of step.
use Rattle.turnstile.proofs.Prelude.{◌≡◌, ℕ, ◌+◌, ◌≤◌, List, [], ◌∷◌, ◌++◌, length, set, ap, ◌∙◌, arith, length-append, get_elem?, dite, some, ℕ_discrete, dec_le}
use Rattle.turnstile.specs.History.{times, total}
use Rattle.turnstile.specs.Turns.{Out}
use Rattle.turnstile.proofs.Totals.{times_same, times_else, times-append, total_set, total_same, total_snoc}

module _ {V : Type 0} (of : V → List ℕ) where
  abbrev pub often : ℕ → V → ℕ
  often k v = times k (of v)

  abbrev pub many : V → ℕ
  many v = length (of v)

  pub out_single : (low high : ℕ) (views : List V) → Out of low high views → (k : ℕ) → total (often k) views ≤ 1
  out_single low high views r k = dite (dec_le high k) (λ l. omega (arith, r.above k l))
      (λ n. dite (dec_le low k) (λ l. omega (arith, r.once k l (omega (arith, n)))) (λ m. omega (arith, r.below k (omega (arith, m)))))

  out_as : (low high : ℕ) (views us : List V) → ((k : ℕ) → total (often k) us ≡ total (often k) views) → total many us ≡ total many views → Out of low high views → Out of low high us
  out_as low high views us same count r = record {
    once = λ k l h. same k ∙ r.once k l h;
    below = λ k l. same k ∙ r.below k l;
    above = λ k l. same k ∙ r.above k l;
    counted = ap (λ (n : ℕ). n + low) count ∙ r.counted;
  }

  pub out_same : (low high : ℕ) (views : List V) (id : ℕ) (v w : V) → get_elem? views id ≡ some v → of w ≡ of v → Out of low high views → Out of low high (set views id w)
  out_same low high views id v w at e = out_as low high views (set views id w) (λ k. total_same (often k) views id v w at (ap (times k) e)) (total_same many views id v w at (ap length e))

  -- at the start none is out
  pub out_none : (v : V) → of v ≡ [] → Out of 0 0 (v ∷ [])
  out_none v e = record {
    once = λ k l h. absurd (omega (arith, h));
    below = λ k l. absurd (omega (arith, l));
    above = λ k l. omega (arith, ap (times k) e);
    counted = omega (arith, ap length e);
  }

  -- a member that has none draws the next
  pub out_more : (low high : ℕ) (views : List V) (id : ℕ) (v w : V) → get_elem? views id ≡ some v → of v ≡ [] → of w ≡ high ∷ [] → Out of low high views → Out of low (high + 1) (set views id w)
  out_more low high views id v w at none one r =
      let change : (k : ℕ) → total (often k) (set views id w) ≡ total (often k) views + times k (high ∷ []) =
      λ k. omega (arith, total_set (often k) views id v w at, ap (times k) none, ap (times k) one) in
      record {
        once = λ k l h. dite (ℕ_discrete high k)
            (λ e. omega (arith, change k, r.above k (omega (arith, e)), times_same k high [] e))
            (λ e. omega (arith, change k, r.once k l (omega (arith, e, h)), times_else k high [] e));
        below = λ k l. omega (arith, change k, r.below k l, times_else k high [] (λ e. omega (arith, e, l, r.counted)));
        above = λ k l. omega (arith, change k, r.above k (omega (arith, l)), times_else k high [] (λ e. omega (arith, e, l)));
        counted = omega (arith, total_set many views id v w at, ap length none, ap length one, r.counted);
      }

  -- the lowest comes back
  pub out_less : (low high : ℕ) (views : List V) (id : ℕ) (v w : V) → get_elem? views id ≡ some v → of v ≡ low ∷ [] → of w ≡ [] → Out of low high views → Out of (low + 1) high (set views id w)
  out_less low high views id v w at one none r =
      let change : (k : ℕ) → total (often k) (set views id w) + times k (low ∷ []) ≡ total (often k) views =
      λ k. omega (arith, total_set (often k) views id v w at, ap (times k) none, ap (times k) one) in
      record {
        once = λ k l h. omega (arith, change k, r.once k (omega (arith, l)) h, times_else k low [] (λ e. omega (arith, e, l)));
        below = λ k l. dite (ℕ_discrete low k)
            (λ e. omega (arith, change k, out_single low high views r k, times_same k low [] e))
            (λ e. omega (arith, change k, r.below k (omega (arith, e, l))));
        above = λ k l. omega (arith, change k, r.above k l);
        counted = omega (arith, total_set many views id v w at, ap length none, ap length one, r.counted);
      }

  -- a member comes that has none
  pub out_snoc : (low high : ℕ) (views : List V) (u : V) → of u ≡ [] → Out of low high views → Out of low high (views ++ u ∷ [])
  out_snoc low high views u none = out_as low high views (views ++ u ∷ []) (λ k. omega (arith, total_snoc (often k) views u, ap (times k) none)) (omega (arith, total_snoc many views u, ap length none))

  -- one member takes what another has
  pub out_join : (low high : ℕ) (views : List V) (id other : ℕ) (v w both spent : V) → get_elem? views id ≡ some v → get_elem? (set views id both) other ≡ some w → of both ≡ of v ++ of w → of spent ≡ []
      → Out of low high views → Out of low high (set (set views id both) other spent)
  out_join low high views id other v w both spent at there whole none = out_as low high views (set (set views id both) other spent)
      (λ k. omega (arith, total_set (often k) views id v both at, total_set (often k) (set views id both) other w spent there, ap (times k) whole ∙ times-append k (of v) (of w), ap (times k) none))
      (omega (arith, total_set many views id v both at, total_set many (set views id both) other w spent there, ap length whole ∙ length-append (of v) (of w), ap length none))
