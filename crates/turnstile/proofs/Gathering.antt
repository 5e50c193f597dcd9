-- All passes joined into one, and what its trace says of each.
use Rattle.turnstile.proofs.Prelude.{◌≡◌, ℕ, ◌+◌, ◌≤◌, All, get_or, ⊎_elim, inl, inr, List, [], ◌∷◌, ◌++◌, length, max, refl, sym, ap, ◌∙◌, subst, arith, length-append, append_assoc, append-nil}
use Rattle.std.proofs.Math.ListN.{get_or-append}
use Rattle.std.proofs.Math.Seq.{get_or-append_seam}
use Rattle.turnstile.specs.declared.history.Entry.{Entry}
use Rattle.turnstile.specs.declared.view.Start.{Start}
use Rattle.turnstile.specs.Calls.{numbers_of, joined_pass, Agree}
use Rattle.turnstile.specs.Closing.{Each, HasSome, all_numbers, FirstCounted, Gathered, IsTrace, FromAll}
use Rattle.turnstile.specs.History.{times, Claims, longer}
use Rattle.turnstile.specs.Passes.{PassView}
use Rattle.turnstile.proofs.Histories.{claims_same, claims_extend, foreign_fewer, own_same, longer_is}
use Rattle.turnstile.proofs.Totals.{times-append, AllPairs-times}

-- what holds of each holds of each of a front
pub all_front : {A : Type 0} (P : A → Type 0) (whole xs ys : List A) → whole ≡ xs ++ ys → All P whole → All P xs
all_front P whole xs ys is all k d inside =
    subst P (ap (λ l. get_or l k d) is ∙ get_or-append xs ys d k inside) (all k d (let h : length whole ≡ length xs + length ys = ap length is ∙ length-append xs ys in omega (arith, h, inside)))

pub all_last : {A : Type 0} (P : A → Type 0) (whole xs : List A) (x : A) → whole ≡ xs ++ x ∷ [] → All P whole → P x
all_last P whole xs x is all =
    let h : length whole ≡ length xs + 1 = ap length is ∙ length-append xs (x ∷ []) in
    subst P (ap (λ l. get_or l (length xs) x) is ∙ get_or-append_seam xs x [] x) (all (length xs) x (omega (arith, h)))

module _ {O R S : Type 0} where
  -- what holds of a list holds of it with more calls of others
  each_extend : (ps : List (PassView O R S)) (numbers : List ℕ) (seen seen' : List (Entry O R)) → ((k : ℕ) → times k (all_numbers ps) ≤ times k numbers) → Claims numbers seen seen' → Each (λ p. Claims (numbers_of p) p.seen seen) ps → Each (λ p. Claims (numbers_of p) p.seen seen') ps
  each_extend [] numbers seen seen' less whole each = tt
  each_extend (p ∷ ps) numbers seen seen' less whole each = (
    subst (Claims (numbers_of p) p.seen) (sym whole.is) (claims_extend (numbers_of p) p.seen seen whole.rest each.0
        (foreign_fewer (numbers_of p) numbers whole.rest (λ k. omega (arith, less k, times-append k (numbers_of p) (all_numbers ps))) whole.foreign)),
    each_extend ps numbers seen seen' (λ k. omega (arith, less k, times-append k (numbers_of p) (all_numbers ps))) whole each.1,
  )

  each_less : (ps : List (PassView O R S)) (m n : ℕ) → m ≤ n → Each (λ p. p.made ≤ m) ps → Each (λ p. p.made ≤ n) ps
  each_less [] m n le each = tt
  each_less (p ∷ ps) m n le each = (omega (arith, each.0, le), each_less ps m n le each.1)

  gathered_one : (p : PassView O R S) → Gathered (p ∷ []) p
  gathered_one p = record {
    claims = (claims_same (numbers_of p) p.seen p.seen refl, tt);
    longest = inl refl;
    numbers = λ k. ap (times k) (append-nil (numbers_of p));
    count = ap length (append-nil (numbers_of p));
    most = (omega arith, tt);
  }

  gathered_more : (ps : List (PassView O R S)) (p q r : PassView O R S) → Gathered ps p → r ≡ joined_pass p q → Agree p q r → Gathered (q ∷ ps) r
  gathered_more ps p q r all is both =
      let numbers : numbers_of r ≡ numbers_of p ++ numbers_of q = ap numbers_of is in
      let seen : r.seen ≡ longer p.seen q.seen = ap (λ (z : PassView O R S). z.seen) is in
      let made : r.made ≡ max p.made q.made = ap (λ (z : PassView O R S). z.made) is in
      record {
        claims = (both.1, each_extend ps (numbers_of p) p.seen r.seen (λ k. omega (arith, all.numbers k)) both.0 all.claims);
        longest = ⊎_elim (λ t. inr (subst (λ l. HasSome (λ (z : PassView O R S). z.seen ≡ l) ps) (sym (seen ∙ t.0)) all.longest)) (λ t. inl (sym (seen ∙ t.0))) (longer_is p.seen q.seen);
        numbers = λ k. omega (arith, all.numbers k, times-append k (numbers_of q) (all_numbers ps), ap (times k) numbers ∙ times-append k (numbers_of p) (numbers_of q));
        count = omega (arith, all.count, length-append (numbers_of q) (all_numbers ps), ap length numbers ∙ length-append (numbers_of p) (numbers_of q));
        most = (omega (arith, made), each_less ps p.made r.made (omega (arith, made)) all.most);
      }

  -- what is left of the passes, and one that has all that the others had
  pub record Taken (all rest : List (PassView O R S)) (kept : PassView O R S) : Type 0 where
    pub taken : List (PassView O R S)
    pub whole : all ≡ rest ++ taken
    pub gathered : Gathered taken kept

  pub taken_first : (all rest : List (PassView O R S)) (p : PassView O R S) → all ≡ rest ++ p ∷ [] → Taken all rest p
  taken_first all rest p is = record { taken = p ∷ []; whole = is; gathered = gathered_one p }

  pub taken_more : (all before rest : List (PassView O R S)) (p q r : PassView O R S) → before ≡ rest ++ q ∷ [] → r ≡ joined_pass p q → Agree p q r → Taken all before p → Taken all rest r
  taken_more all before rest p q r is joined both so_far = record {
    taken = q ∷ so_far.taken;
    whole = so_far.whole ∙ (ap (λ (l : List (PassView O R S)). l ++ so_far.taken) is ∙ append_assoc rest (q ∷ []) so_far.taken);
    gathered = gathered_more so_far.taken p q r so_far.gathered joined both;
  }

  pub taken_all : (all rest : List (PassView O R S)) (kept : PassView O R S) → rest ≡ [] → Taken all rest kept → Gathered all kept
  taken_all all rest kept none so_far =
      subst (λ (l : List (PassView O R S)). Gathered l kept) (sym (so_far.whole ∙ ap (λ (l : List (PassView O R S)). l ++ so_far.taken) none)) so_far.gathered

module _ {X S O R : Type 0} (reply : S → O → R) (after : S → O → S) (state : X → S) (x : Start S) where
  -- what the trace of one pass says of all that were joined into it, and of the first before it was counted
  pub traced : (ps qs : List (PassView O R S)) (kept : PassView O R S) (made : ℕ) (history : List (Entry O R)) (object : X) → FirstCounted ps qs made → Gathered qs kept → IsTrace reply after state x kept history object → FromAll reply after state x ps history object
  traced [] qs kept made history object first gathered trace = absurd first
  traced (p ∷ ps) [] kept made history object first gathered trace = absurd first
  traced (p ∷ ps) (q ∷ qs) kept made history object first gathered trace =
      let all : Gathered ((record p { made = q.made }) ∷ ps) kept = subst (λ (l : List (PassView O R S)). Gathered l kept) (λ i. first.0.0 i ∷ first.2 i) gathered in
      let whole = sym trace.whole in
      record {
        claims = subst (λ (l : List (Entry O R)). Each (λ (z : PassView O R S). Claims (numbers_of z) z.seen l) (p ∷ ps)) whole all.claims;
        longest = subst (λ (l : List (Entry O R)). HasSome (λ (z : PassView O R S). z.seen ≡ l) (p ∷ ps)) whole all.longest;
        differ = AllPairs-times (all_numbers (p ∷ ps)) (λ k. omega (arith, all.numbers k, trace.differ k));
        own = own_same (numbers_of kept) (all_numbers (p ∷ ps)) history all.numbers trace.own;
        most = (omega (arith, first.0.1, all.most.0, all.count, trace.most), each_less ps kept.made (length (all_numbers (p ∷ ps))) (omega (arith, all.count, trace.most)) all.most.1);
        legal = trace.legal;
        object_is = trace.object_is;
        bounded = trace.bounded;
      }
