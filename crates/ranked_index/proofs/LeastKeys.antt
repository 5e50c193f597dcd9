-- The least of keys.
use Rattle.ranked_index.proofs.Prelude.{◌≡◌, ℕ, zero, suc, ◌<◌, ◌≤◌, inl, inr, List, [], ◌∷◌, length, get_or, min, Option, Some, None, refl, ap, arith, cases_lt, same_Some}
use Rattle.ranked_index.specs.Keys.{lesser_key, least_key}

-- a key at a place
pub record IsAt (keys : List (Option ℕ)) (key : ℕ) : Type 0 where
  pub at : ℕ
  pub within : at < length keys
  pub is : get_or keys at None ≡ Some key

-- a key that is at most this
pub record IsAtMost (least : Option ℕ) (key : ℕ) : Type 0 where
  pub low : ℕ
  pub is : least ≡ Some low
  pub le : low ≤ key

-- one of the keys, where there is one, and at most each
pub record IsLeast (least : Option ℕ) (keys : List (Option ℕ)) : Type 0 where
  pub met : (key : ℕ) → least ≡ Some key → IsAt keys key
  pub lower : (i key : ℕ) → i < length keys → get_or keys i None ≡ Some key → IsAtMost least key

at_later : (first : Option ℕ) (keys : List (Option ℕ)) (key : ℕ) → IsAt keys key → IsAt (first ∷ keys) key
at_later first keys key at = record { at = suc at.at; within = omega (arith, at.within); is = at.is }

least_more : (first least : Option ℕ) (keys : List (Option ℕ)) → IsLeast least keys → IsLeast (lesser_key first least) (first ∷ keys)
least_more None least keys is = record {
  met = λ key same. at_later None keys key (is.met key same);
  lower = λ i key. lower i key;
}
  where
    lower : (i key : ℕ) → i < length (None ∷ keys) → get_or (None ∷ keys) i None ≡ Some key → IsAtMost least key
    lower zero key within same = absurd (cc)
    lower (suc i) key within same = is.lower i key (omega arith) same
least_more (Some own) None keys is = record {
  met = λ key same. record { at = 0; within = omega arith; is = same };
  lower = λ i key. lower i key;
}
  where
    lower : (i key : ℕ) → i < length (Some own ∷ keys) → get_or (Some own ∷ keys) i None ≡ Some key → IsAtMost (Some own) key
    lower zero key within same = record { low = own; is = refl; le = omega (arith, same_Some own key same) }
    lower (suc i) key within same = let at = is.lower i key (omega arith) same in let none : None ≡ Some at.low = at.is in absurd (cc)
least_more (Some own) (Some least) keys is = record {
  met = λ key same.
      let is_key : min own least ≡ key = same_Some (min own least) key same in
      elim (cases_lt least own) [
        | inl less ↦ at_later (Some own) keys key (is.met key (ap Some (let same : least ≡ key = omega arith in same)))
        | inr more ↦ record { at = 0; within = omega arith; is = ap Some (let same : own ≡ key = omega arith in same) }
      ];
  lower = λ i key. lower i key;
}
  where
    lower : (i key : ℕ) → i < length (Some own ∷ keys) → get_or (Some own ∷ keys) i None ≡ Some key → IsAtMost (Some (min own least)) key
    lower zero key within same = record { low = min own least; is = refl; le = omega (arith, same_Some own key same) }
    lower (suc i) key within same =
        let at = is.lower i key (omega arith) same in
        record { low = min own least; is = refl; le = omega (arith, at.le, same_Some least at.low at.is) }

pub least_key-is : (keys : List (Option ℕ)) → IsLeast (least_key keys) keys
least_key-is [] = record { met = λ key same. absurd (cc); lower = λ i key within same. absurd (omega arith) }
least_key-is (key ∷ keys) = least_more key (least_key keys) keys (least_key-is keys)

-- the least of the keys is at most another that is the least
lowest : (a : Option ℕ) (n : ℕ) (keys : List (Option ℕ)) → IsLeast a keys → IsLeast (Some n) keys → IsAtMost a n
lowest a n keys is is' = let at = is'.met n refl in is.lower at.at n at.within at.is

-- there is one least
pub least-same : (a b : Option ℕ) (keys : List (Option ℕ)) → IsLeast a keys → IsLeast b keys → a ≡ b
least-same None None keys is is' = refl
least-same None (Some n) keys is is' = let low = lowest None n keys is is' in let none : None ≡ Some low.low = low.is in absurd (cc)
least-same (Some m) None keys is is' = let low = lowest None m keys is' is in let none : None ≡ Some low.low = low.is in absurd (cc)
least-same (Some m) (Some n) keys is is' =
    let low = lowest (Some m) n keys is is' in
    let low' = lowest (Some n) m keys is' is in
    ap Some (omega (arith, low.le, low'.le, same_Some m low.low low.is, same_Some n low'.low low'.is))

-- rows of the same keys have the same least key
pub least_key-same : (xs ys : List (Option ℕ)) → ((key : ℕ) → IsAt xs key → IsAt ys key) → ((key : ℕ) → IsAt ys key → IsAt xs key) → least_key xs ≡ least_key ys
least_key-same xs ys to from =
    let is = least_key-is xs in
    let along : IsLeast (least_key xs) ys = record {
      met = λ key same. to key (is.met key same);
      lower = λ i key within there. let at = from key (record { at = i; within = within; is = there }) in is.lower at.at key at.within at.is;
    } in
    least-same (least_key xs) (least_key ys) ys along (least_key-is ys)
