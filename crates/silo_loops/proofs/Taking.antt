-- Passes that were taken in, and those that took them in.
use Rattle.silo_loops.proofs.Prelude.{◌≡◌, ℕ, List, [], ◌∷◌, ◌++◌, Contains, Result, Ok, Err, refl, sym, ap, subst, ◌∙◌, append_assoc, arith, Contains-append_right, Agree, joined_pass, numbers_of, Foreign, entry, PassView, Entry, Refusal}
use Rattle.turnstile.proofs.Histories.{foreign-append}
use Rattle.silo_loops.specs.Passes.{CallsAlone, CallsBy, IsOtherIn}

module _ {O R S : Type 0} where
  pub alone-append : (p : PassView O R S) (xs ys : List (Entry O R)) → CallsAlone p xs → CallsAlone p ys → CallsAlone p (xs ++ ys)
  alone-append p [] ys a b = b
  alone-append p (x ∷ xs) ys a b = (a.0, alone-append p xs ys a.1 b)

  pub alone-foreign : (p : PassView O R S) (es : List (Entry O R)) → Foreign (numbers_of p) es → CallsAlone p es
  alone-foreign p [] foreign = tt
  alone-foreign p (e ∷ es) foreign = ((λ here. absurd (foreign.0 here)), alone-foreign p es foreign.1)

  -- who has fewer numbers, and calls under the same, calls alone too
  pub alone-fewer : (p q : PassView O R S) (es : List (Entry O R)) → ((k : ℕ) → Contains (numbers_of p) k → Contains (numbers_of q) k) → q.number ≡ p.number → CallsAlone q es → CallsAlone p es
  alone-fewer p q [] fewer same alone = tt
  alone-fewer p q (e ∷ es) fewer same alone = ((λ here. alone.0 (fewer e.number here) ∙ same), alone-fewer p q es fewer same alone.1)

  -- none of a pass's calls are those of one that it took in
  taken-foreign : (p q : PassView O R S) (es : List (Entry O R)) → IsOtherIn p q → CallsAlone q es → Foreign (numbers_of p) es
  taken-foreign p q [] taken alone = tt
  taken-foreign p q (e ∷ es) taken alone =
      ((λ here. taken.other (subst (λ k. Contains (numbers_of p) k) (alone.0 (taken.part.numbers e.number here)) here)), taken-foreign p q es taken alone.1)

  -- what was taken in stays so
  pub taken-on : (p q r : PassView O R S) (more : List (Entry O R)) → IsOtherIn p q → r.number ≡ q.number → ((k : ℕ) → Contains (numbers_of q) k → Contains (numbers_of r) k) → r.seen ≡ q.seen ++ more → CallsAlone q more → IsOtherIn p r
  taken-on p q r more taken number numbers seen alone =
      let claims = taken.part.claims in
      record {
        part = record {
          numbers = λ k here. numbers k (taken.part.numbers k here);
          claims =
              record {
                rest = claims.rest ++ more;
                is = seen ∙ ap (λ (es : List (Entry O R)). es ++ more) claims.is ∙ append_assoc p.seen claims.rest more;
                foreign = foreign-append (numbers_of p) claims.rest more claims.foreign (taken-foreign p q more taken alone);
              };
        };
        other = λ here. taken.other (subst (λ k. Contains (numbers_of p) k) number here);
      }

  -- a pass that is joined to another is taken in
  pub taken-joined : (p q r : PassView O R S) → r ≡ joined_pass p q → Agree p q r → IsOtherIn q r
  taken-joined p q r is agree =
      let numbers : numbers_of r ≡ numbers_of p ++ numbers_of q = ap (λ (w : PassView O R S). numbers_of w) is in
      let first : Contains (numbers_of p) p.number = (0, omega arith, refl) in
      record {
        part = record { numbers = λ k here. subst (λ ks. Contains ks k) (sym numbers) (Contains-append_right (numbers_of p) (numbers_of q) k here); claims = agree.1 };
        other = λ here. agree.2 r.number (subst (λ k. Contains (numbers_of p) k) (sym (ap (λ (w : PassView O R S). w.number) is)) first) here;
      }

module _ {S O R : Type 0} (reply : S → O → R) (after : S → O → S) where
  -- what a call adds to what a pass has seen
  pub called-alone : (p : PassView O R S) (op : O) (result : Result R Refusal) (q : PassView O R S) → CallsBy reply after p op result q → (more : List (Entry O R)) × (q.seen ≡ p.seen ++ more) × CallsAlone p more
  called-alone p op (Ok r) q calls =
      let called = calls.call in
      let last = entry p.number op r ∷ [] in
      (called.0 ++ last, called.1 ∙ append_assoc p.seen called.0 last, alone-append p called.0 last (alone-foreign p called.0 called.2) ((λ here. refl), tt))
  called-alone p op (Err e) q calls = (calls.call.0, calls.call.1, alone-foreign p calls.call.0 calls.call.2)
