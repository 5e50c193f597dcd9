-- One text behind another.
use Rattle.stream_script.proofs.Prelude.{ℕ, Bool, true, false, cond, List, [], ◌∷◌, Ok, refl, ◌≡◌, ◌+◌, ◌-◌, ◌<◌, ◌≤◌, arith, ◌++◌, length, take, drop, get_or, Result, Err, sym, ap, ◌∙◌, append_assoc, starts_with_rest, take_all, take_at, take_more, IsErr}
use Rattle.std.specs.Io.{StartsWith}
use Rattle.std.specs.Prelude.{slice_range}
use Rattle.std.proofs.lemmas.List.{get_or-drop, length-drop}
use Rattle.stream_script.specs.Pieces.{escaped, is_special}
use Rattle.stream_script.specs.Writing.{Writes}

-- two texts that were appended are one
pub appended : (old mid new first second text : List ℕ) → mid ≡ old ++ first → new ≡ mid ++ second → first ++ second ≡ text → new ≡ old ++ text
appended old mid new first second text p q e = q ∙ ap (λ bytes. bytes ++ second) p ∙ append_assoc old first second ∙ ap (λ bytes. old ++ bytes) e

-- what begins with a longer text begins with its front
pub starts_with_front : (old first new : List ℕ) → StartsWith new (old ++ first) → StartsWith new old
starts_with_front old first new h =
    let rest = drop (length (old ++ first)) new in
    let whole : new ≡ old ++ (first ++ rest) = starts_with_rest new (old ++ first) h ∙ append_assoc old first rest in
    ap (take (length old)) whole ∙ take_at old (first ++ rest) (length old) refl

-- a text was appended, and a call goes on behind it
pub writes_then : {T E : Type 0} (old mid new : List ℕ) (result : Result T E) (first second text : List ℕ) → mid ≡ old ++ first → Writes mid new result second → first ++ second ≡ text → Writes old new result text
writes_then old mid new (Ok done) first second text p q e = appended old mid new first second text p q e
writes_then old mid new (Err failed) first second text p q e = starts_with_front old first new (rw (← p) q)

-- a text was appended, and the call behind it failed
pub writes_failed : {T E : Type 0} (old mid new : List ℕ) (result : Result T E) (first text : List ℕ) → mid ≡ old ++ first → StartsWith new mid → IsErr result → Writes old new result text
writes_failed old mid new (Ok done) first text p q failed = absurd cc
writes_failed old mid new (Err e) first text p q failed = starts_with_front old first new (rw (← p) q)

pub three_texts : (a x b y c z : List ℕ) → ((a ++ x) ++ (b ++ y)) ++ (c ++ z) ≡ a ++ x ++ b ++ y ++ c ++ z
three_texts a x b y c z = simp append_assoc

escaped-cons : (b : Bool) (byte : ℕ) (bytes rest : List ℕ) → cond b (92 ∷ byte ∷ (bytes ++ rest)) (byte ∷ (bytes ++ rest)) ≡ cond b (92 ∷ byte ∷ bytes) (byte ∷ bytes) ++ rest
escaped-cons true byte bytes rest = refl
escaped-cons false byte bytes rest = refl

pub escaped-append : (front rest : List ℕ) → escaped (front ++ rest) ≡ escaped front ++ escaped rest
escaped-append [] rest = refl
escaped-append (byte ∷ front) rest = rw (escaped-append front rest) (escaped-cons _ byte (escaped front) (escaped rest))

-- one byte more of a text in quotes
pub escaped_more : (bytes : List ℕ) (i : ℕ) → i < length bytes → escaped (take i bytes) ++ escaped (get_or bytes i 0 ∷ []) ≡ escaped (take (i + 1) bytes)
escaped_more bytes i h = sym (ap escaped (take_more bytes i 0 h) ∙ escaped-append (take i bytes) (get_or bytes i 0 ∷ []))

-- an escaped text so far: what was appended of it, and behind that a part that stands as it is
pub record Escapes (old now bytes : List ℕ) (from at : ℕ) : Type 0 where
  pub reached : from ≤ at
  pub front : List ℕ
  pub stands : now ≡ old ++ front
  pub left : front ++ slice_range bytes from at ≡ escaped (take at bytes)

module _ (old now bytes : List ℕ) (from at : ℕ) (escapes : Escapes old now bytes from at) (within : at < length bytes) where
  abbrev byte : ℕ
  byte = get_or bytes at 0

  pub escapes-plain : is_special byte ≡ false → Escapes old now bytes from (at + 1)
  escapes-plain plain =
      let one : escaped (byte ∷ []) ≡ byte ∷ [] = rw plain refl in
      let long : length (drop from bytes) ≡ length bytes - from = length-drop from bytes in
      let more : at + 1 - from ≡ at - from + 1 = omega (arith, escapes.reached) in
      let here : from + (at - from) ≡ at = omega (arith, escapes.reached) in
      record {
        reached = omega (arith, escapes.reached);
        front = escapes.front;
        stands = escapes.stands;
        left =
            ap (λ n. escapes.front ++ take n (drop from bytes)) more
            ∙ ap (λ l. escapes.front ++ l) (take_more (drop from bytes) (at - from) 0 (omega (arith, long, escapes.reached, within)))
            ∙ ap (λ b. escapes.front ++ (slice_range bytes from at ++ b ∷ [])) (get_or-drop from bytes (at - from) 0 ∙ ap (λ n. get_or bytes n 0) here)
            ∙ sym (append_assoc escapes.front (slice_range bytes from at) (byte ∷ []))
            ∙ ap (λ l. l ++ byte ∷ []) escapes.left
            ∙ ap (λ l. escaped (take at bytes) ++ l) (sym one)
            ∙ escaped_more bytes at within;
      }

  pub escapes-special : (mid new : List ℕ) → is_special byte ≡ true → mid ≡ now ++ slice_range bytes from at → new ≡ mid ++ 92 ∷ [] → Escapes old new bytes at (at + 1)
  escapes-special mid new special first second =
      let one : escaped (byte ∷ []) ≡ 92 ∷ byte ∷ [] = rw special refl in
      let long : length (drop at bytes) ≡ length bytes - at = length-drop at bytes in
      let single : at + 1 - at ≡ 0 + 1 = omega arith in
      let last : slice_range bytes at (at + 1) ≡ byte ∷ [] =
      ap (λ n. take n (drop at bytes)) single ∙ take_more (drop at bytes) 0 0 (omega (arith, long, within)) ∙ ap (λ b. b ∷ []) (get_or-drop at bytes 0 0 ∙ ap (λ n. get_or bytes n 0) (omega arith)) in
      record {
        reached = omega arith;
        front = escaped (take at bytes) ++ 92 ∷ [];
        stands = appended old mid new (escaped (take at bytes)) (92 ∷ []) (escaped (take at bytes) ++ 92 ∷ []) (appended old now mid escapes.front (slice_range bytes from at) (escaped (take at bytes)) escapes.stands first escapes.left) second refl;
        left = ap (λ l. (escaped (take at bytes) ++ 92 ∷ []) ++ l) last ∙ append_assoc (escaped (take at bytes)) (92 ∷ []) (byte ∷ []) ∙ ap (λ l. escaped (take at bytes) ++ l) (sym one) ∙ escaped_more bytes at within;
      }

pub escapes-all : (old now bytes : List ℕ) (from at : ℕ) (escapes : Escapes old now bytes from at) → at ≡ length bytes → escapes.front ++ slice_range bytes from (length bytes) ≡ escaped bytes
escapes-all old now bytes from at escapes all = ap (λ n. escapes.front ++ slice_range bytes from n) (sym all) ∙ escapes.left ∙ ap escaped (take_all at bytes (omega (arith, all)))
