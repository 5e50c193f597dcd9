-- The front of deliveries that are all of one subscription and rise.
use Rattle.stream_ident.proofs.Prelude.{◌≡◌, ◌+◌, ◌<◌, ◌≤◌, ◌&&◌, ◌∷◌, ◌++◌, ◌∙◌, ℕ, zero, suc, Bool, true, false, List, [], length, get_or, drop, take, refl, sym, ap, nat_le, arith, append_assoc, and_from, le-leb, length_push, drop_all, take_rest}
use Rattle.std.proofs.Common.{◌-◌, append-nil}
use Rattle.stream_ident.specs.Words.{rising_front}
use Rattle.stream_ident.proofs.WordLemmas.{drop-read}

module _ {D K : Type 0} (same : K → K → Bool) (sub_of : D → K) (position_of : D → ℕ) where
  -- with no delivery left the front ends
  front-nil : (n : ℕ) (s : K) (from : ℕ) → rising_front same sub_of position_of n s from [] ≡ []
  front-nil zero s from = refl
  front-nil (suc n) s from = refl

  -- the front of deliveries whose first goes on, and of those whose first doesn't
  front-cons : (n : ℕ) (s : K) (from : ℕ) (d : D) (ds : List D) → (same s (sub_of d) && nat_le from (position_of d)) ≡ true
      → rising_front same sub_of position_of (suc n) s from (d ∷ ds) ≡ position_of d ∷ rising_front same sub_of position_of n s (suc (position_of d)) ds
  front-cons n s from d ds passes = rw passes refl

  front-cut : (n : ℕ) (s : K) (from : ℕ) (d : D) (ds : List D) → (same s (sub_of d) && nat_le from (position_of d)) ≡ false → rising_front same sub_of position_of n s from (d ∷ ds) ≡ []
  front-cut zero s from d ds fails = refl
  front-cut (suc n) s from d ds fails = rw fails refl

  -- the front of deliveries that begin with its first
  pub front-start : ((s : K) → same s s ≡ true) → (most : ℕ) (d : D) (ds : List D) (done : List ℕ) → 1 ≤ most → ds ≡ d ∷ drop 1 ds → done ≡ position_of d ∷ []
      → done ++ rising_front same sub_of position_of (most - length done) (sub_of d) (suc (position_of d)) (take (length ds - 1) (drop 1 ds)) ≡ rising_front same sub_of position_of most (sub_of d) (position_of d) ds
  front-start reflexive most d ds done some first is_first =
      let n : ℕ = most - 1 in
      let most_is : most ≡ suc n = omega arith in
      let passes = and_from _ _ (reflexive (sub_of d)) (le-leb (position_of d) (position_of d) (omega arith)) in
      rw (is_first, take_rest ds 1)
      (sym (front-cons n (sub_of d) (position_of d) d (drop 1 ds) passes)
      ∙ (ap (λ m. rising_front same sub_of position_of m (sub_of d) (position_of d) (d ∷ drop 1 ds)) (sym most_is)
      ∙ ap (rising_front same sub_of position_of most (sub_of d) (position_of d)) (sym first)))

  -- one more delivery
  pub front-more : (done : List ℕ) (most : ℕ) (s : K) (from : ℕ) (ds : List D) (i : ℕ) (d : D) → i < length ds → d ≡ get_or ds i d → length done < most → (same s (sub_of d) && nat_le from (position_of d)) ≡ true
      → (done ++ position_of d ∷ []) ++ rising_front same sub_of position_of (most - length (done ++ position_of d ∷ [])) s (suc (position_of d)) (drop (i + 1) ds)
      ≡ done ++ rising_front same sub_of position_of (most - length done) s from (drop i ds)
  front-more done most s from ds i d within read room passes =
      let n : ℕ = most - suc (length done) in
      let left : most - length (done ++ position_of d ∷ []) ≡ n = omega (arith, length_push done (position_of d)) in
      let left' : most - length done ≡ suc n = omega arith in
      rw (drop-read ds i d within read, left, left', passes, append_assoc) refl

  -- what is done is the front: all that it may have
  pub front-full : (done : List ℕ) (most : ℕ) (s : K) (from : ℕ) (ds : List D) → length done ≡ most → done ++ rising_front same sub_of position_of (most - length done) s from ds ≡ done
  front-full done most s from ds full =
      let left : most - length done ≡ 0 = omega arith in
      rw (left, append-nil) refl

  -- or all that there is
  pub front-end : (done : List ℕ) (n : ℕ) (s : K) (from : ℕ) (ds : List D) (i : ℕ) → length ds ≤ i → done ++ rising_front same sub_of position_of n s from (drop i ds) ≡ done
  front-end done n s from ds i past =
      rw (drop_all i ds past, front-nil n s from, append-nil) refl

  -- or the next isn't of the turn
  pub front-stop : (done : List ℕ) (n : ℕ) (s : K) (from : ℕ) (ds : List D) (i : ℕ) (d : D) → i < length ds → d ≡ get_or ds i d → (same s (sub_of d) && nat_le from (position_of d)) ≡ false
      → done ++ rising_front same sub_of position_of n s from (drop i ds) ≡ done
  front-stop done n s from ds i d within read fails =
      rw (drop-read ds i d within read, front-cut n s from d (drop (i + 1) ds) fails, append-nil) refl
