-- Splitting at the first separator.
use Rattle.stream_ident.proofs.Prelude.{sym, ap, ◌∙◌, arith, suc, subst, add-one, and_parts, not-true, eqb-true, eq-eqb, lt-ltb, nat_tests, take_rest, same_Some, position_or_len, list_all, ◌-◌, not, Option, Some, None, position, nat_lt, ◌==◌, cond}
use Rattle.std.specs.Prelude.{◌≡◌, ℕ, ◌+◌, Bool, true, false, List, [], ◌∷◌, ◌++◌, length, take, drop, refl}
use Rattle.std.specs.Option.{option_map}
use Rattle.stream_ident.specs.Text.{split_once}
use Rattle.stream_ident.proofs.WordLemmas.{one-add}

-- a text on both sides of a separator
abbrev pub Parts : Type 0
Parts = List ℕ × List ℕ

abbrev cut : List ℕ → ℕ → Parts
cut bytes at_ = (take at_ bytes, drop (suc at_) bytes)

abbrev behind : ℕ → Parts → Parts
behind byte parts = (byte ∷ parts.0, parts.1)

nat_lt_suc : (m n : ℕ) → nat_lt (suc m) (suc n) ≡ nat_lt m n
nat_lt_suc m n = grind (arith, nat_tests)

cut_later : (t : Bool) (byte : ℕ) (bytes : List ℕ) (n : ℕ) → option_map (behind byte) (option_map (cut bytes) (cond t (Some n) None)) ≡ option_map (cut (byte ∷ bytes)) (cond t (Some (suc n)) None)
cut_later true byte bytes n = refl
cut_later false byte bytes n = refl

cut_step : (b : Bool) (byte : ℕ) (bytes : List ℕ) (n : ℕ) (rest : Option Parts) → rest ≡ option_map (cut bytes) (cond (nat_lt n (length bytes)) (Some n) None) → cond b (Some ([], bytes)) (option_map (behind byte) rest) ≡ option_map (cut (byte ∷ bytes)) (cond (nat_lt (cond (not b) (1 + n) 0) (suc (length bytes))) (Some (cond (not b) (1 + n) 0)) None)
cut_step true byte bytes n rest e = ap (λ t. option_map (cut (byte ∷ bytes)) (cond t (Some 0) None)) (sym (lt-ltb 0 (suc (length bytes)) (omega arith)))
cut_step false byte bytes n rest e = rw (one-add n, nat_lt_suc n (length bytes), e) (cut_later (nat_lt n (length bytes)) byte bytes n)

pub split_once-position : (separator : ℕ) (bytes : List ℕ) → split_once separator bytes ≡ option_map (cut bytes) (position (λ byte. byte == separator) bytes)
split_once-position separator [] = refl
split_once-position separator (byte ∷ bytes) =
    cut_step (byte == separator) byte bytes (position_or_len (λ b. b == separator) bytes) (split_once separator bytes) (split_once-position separator bytes)

pub split_once-none : (separator : ℕ) (bytes : List ℕ) → None ≡ position (λ byte. byte == separator) bytes → None ≡ split_once separator bytes
split_once-none separator bytes e = sym (split_once-position separator bytes ∙ ap (option_map (cut bytes)) (sym e))

pub split_once-some : (separator : ℕ) (bytes : List ℕ) (n : ℕ) → Some n ≡ position (λ byte. byte == separator) bytes → Some (take n bytes, take (length bytes - (n + 1)) (drop (n + 1) bytes)) ≡ split_once separator bytes
split_once-some separator bytes n e =
    rw (take_rest bytes (n + 1), add-one n) (sym (split_once-position separator bytes ∙ ap (option_map (cut bytes)) (sym e)))

joined_step : (b : Bool) (byte separator : ℕ) (bytes : List ℕ) (rest : Option Parts) (parts : Parts) → (byte == separator) ≡ b → ((inner : Parts) → rest ≡ Some inner → bytes ≡ inner.0 ++ separator ∷ inner.1) → cond b (Some ([], bytes)) (option_map (behind byte) rest) ≡ Some parts → byte ∷ bytes ≡ parts.0 ++ separator ∷ parts.1
joined_step true byte separator bytes rest parts same later e =
    let Joined : Parts → Type 0 = λ p. byte ∷ bytes ≡ p.0 ++ separator ∷ p.1 in
    subst Joined (same_Some _ _ e) (ap (λ b. b ∷ bytes) (eqb-true byte separator same))
joined_step false byte separator bytes None parts same later e = cc
joined_step false byte separator bytes (Some inner) parts same later e =
    let Joined : Parts → Type 0 = λ p. byte ∷ bytes ≡ p.0 ++ separator ∷ p.1 in
    subst Joined (same_Some _ _ e) (ap (λ bs. byte ∷ bs) (later inner refl))

-- a text is its two parts joined by the separator
pub split_once-joined : (separator : ℕ) (bytes : List ℕ) (parts : Parts) → split_once separator bytes ≡ Some parts → bytes ≡ parts.0 ++ separator ∷ parts.1
split_once-joined separator [] parts e = cc
split_once-joined separator (byte ∷ bytes) parts e =
    joined_step (byte == separator) byte separator bytes (split_once separator bytes) parts refl (λ inner h. split_once-joined separator bytes inner h) e

-- where no separator stands in front of it, a separator splits a text
pub split_once-front : (separator : ℕ) (front rest : List ℕ) → list_all (λ byte. not (byte == separator)) front ≡ true → split_once separator (front ++ separator ∷ rest) ≡ Some (front, rest)
split_once-front separator [] rest none = rw (eq-eqb separator separator refl) refl
split_once-front separator (byte ∷ front) rest none =
    let parts = and_parts (not (byte == separator)) _ none in
    rw (not-true (byte == separator) parts.0, split_once-front separator front rest parts.1) refl
