-- What was asked, with its replies, and the same calls done once more.
use Rattle.turnstile.proofs.Prelude.{◌≡◌, ℕ, zero, suc, ◌+◌, ◌<◌, List, [], ◌∷◌, ◌++◌, length, map, get_or, take, drop, add-one, refl, sym, ap, ◌∙◌, subst, arith}
use Rattle.std.proofs.lemmas.List.{length-map}
use Rattle.std.proofs.Math.Seq.{take-length}
use Rattle.turnstile.specs.declared.asked.Asked.{Asked}
use Rattle.turnstile.specs.declared.history.Entry.{Entry}
use Rattle.turnstile.specs.History.{replay, IsLegal, entry}
use Rattle.turnstile.specs.Recorded.{answered}

module _ {O R : Type 0} where
  pub answered-snoc : (qs : List (Asked O)) (rs : List R) (a : Asked O) (r : R) → length qs ≡ length rs → answered (qs ++ a ∷ []) (rs ++ r ∷ []) ≡ answered qs rs ++ entry a.number a.op r ∷ []
  answered-snoc [] [] a r same = refl
  answered-snoc [] (x ∷ rs) a r same = absurd (omega (arith, same))
  answered-snoc (x ∷ qs) [] a r same = absurd (omega (arith, same))
  answered-snoc (x ∷ qs) (y ∷ rs) a r same = ap (λ (l : List (Entry O R)). entry x.number x.op y ∷ l) (answered-snoc qs rs a r (omega (arith, same)))

  pub replies-answered : (qs : List (Asked O)) (rs : List R) → length qs ≡ length rs → map (λ (e : Entry O R). e.reply) (answered qs rs) ≡ rs
  replies-answered [] [] same = refl
  replies-answered [] (r ∷ rs) same = absurd (omega (arith, same))
  replies-answered (a ∷ qs) [] same = absurd (omega (arith, same))
  replies-answered (a ∷ qs) (r ∷ rs) same = ap (λ (l : List R). r ∷ l) (replies-answered qs rs (omega (arith, same)))

  pub length-answered : (qs : List (Asked O)) (rs : List R) → length qs ≡ length rs → length (answered qs rs) ≡ length qs
  length-answered qs rs same = sym (length-map (answered qs rs) (λ (e : Entry O R). e.reply)) ∙ (ap length (replies-answered qs rs same) ∙ sym same)

module _ {S O R : Type 0} (reply : S → O → R) (after : S → O → S) where
  -- the first k calls were done again
  pub record Again (s : S) (qs : List (Asked O)) (rs : List R) (k : ℕ) (got : List R) (t : S) : Type 0 where
    pub replies : got ≡ take k rs
    pub state : t ≡ replay reply after s (take k (answered qs rs))
    pub legal : IsLegal reply after t (drop k (answered qs rs))

  -- one more is done
  pub again_next : (s : S) (qs : List (Asked O)) (rs : List R) (k : ℕ) (a : Asked O) (got : List R) (t : S) → length qs ≡ length rs → k < length qs → a ≡ get_or qs k a → Again s qs rs k got t → Again s qs rs (suc k) (got ++ reply t a.op ∷ []) (after t a.op)
  again_next s [] rs k a got t same inside is so_far = absurd (omega (arith, inside))
  again_next s (x ∷ qs) [] k a got t same inside is so_far = absurd (omega (arith, same))
  again_next s (x ∷ qs) (r ∷ rs) zero a got t same inside is so_far =
      let op : a.op ≡ x.op = ap (λ (z : Asked O). z.op) is in
      let right : r ≡ reply t x.op = so_far.legal.0 in
      record {
        replies = λ i. so_far.replies i ++ (ap (reply t) op ∙ sym right) i ∷ [];
        state = λ i. after (so_far.state i) (op i);
        legal = subst (λ (o : O). IsLegal reply after (after t o) (answered qs rs)) (sym op) so_far.legal.1;
      }
  again_next s (x ∷ qs) (r ∷ rs) (suc k) a got t same inside is so_far =
      let first : got ≡ r ∷ take k rs = so_far.replies in
      let later : Again (after s x.op) qs rs (suc k) (take k rs ++ reply t a.op ∷ []) (after t a.op) =
      again_next (after s x.op) qs rs k a (take k rs) t (omega (arith, same)) (omega (arith, inside)) is record { replies = refl; state = so_far.state; legal = so_far.legal } in
      record {
        replies = ap (λ (l : List R). l ++ reply t a.op ∷ []) first ∙ ap (λ (l : List R). r ∷ l) later.replies;
        state = later.state;
        legal = later.legal;
      }

  -- the same, of what a call left
  pub again_done : (s : S) (qs : List (Asked O)) (rs : List R) (k : ℕ) (a : Asked O) (got got' : List R) (t t' : S) (r : R) → length qs ≡ length rs → k < length qs → a ≡ get_or qs k a → Again s qs rs k got t
      → got' ≡ got ++ r ∷ [] → t' ≡ after t a.op → r ≡ reply t a.op → Again s qs rs (k + 1) got' t'
  again_done s qs rs k a got got' t t' r same inside is so_far pushed changed right =
      rw (add-one, pushed, changed, right) (again_next s qs rs k a got t same inside is so_far)

  -- all are done
  pub again_all : (s : S) (qs : List (Asked O)) (rs : List R) (k : ℕ) (got : List R) (t : S) → length qs ≡ length rs → k ≡ length qs → Again s qs rs k got t
      → (got ≡ map (λ (e : Entry O R). e.reply) (answered qs rs)) × (t ≡ replay reply after s (answered qs rs))
  again_all s qs rs k got t same all so_far = (
    so_far.replies ∙ (ap (λ (n : ℕ). take n rs) (all ∙ same) ∙ (take-length rs ∙ sym (replies-answered qs rs same))),
    so_far.state ∙ ap (replay reply after s) (ap (λ (n : ℕ). take n (answered qs rs)) (all ∙ sym (length-answered qs rs same)) ∙ take-length (answered qs rs)),
  )
