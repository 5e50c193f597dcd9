-- A token and its text give one another.
use Rattle.stream_ident.proofs.Prelude.{sym, ap, ◌∙◌, arith, and_parts, and_from, lt-ltb, ltb-true, nat_tests, digits_decimal, cond_some, list_all, ◌≢◌, ◌^◌, not, Option, Some, None, Result, Ok, Err, ◌==◌, OnErr, IfOk, all_ascii_digits}
use Rattle.std.specs.Prelude.{◌≡◌, ℕ, ◌<◌, true, List, [], ◌∷◌, ◌++◌, refl}
use Rattle.std.specs.Fmt.{decimal}
use Rattle.std.specs.Char.{is_ascii_digit}
use Rattle.stream_ident.specs.Number.{number_of}
use Rattle.stream_ident.specs.Text.{split_once}
use Rattle.stream_ident.specs.Token.{token_text, IsToken, token_of, token_of_parts, token_or, narrowed, token_lt}
use Rattle.stream_ident.proofs.NumberLemmas.{numerals, number_of-decimal, decimal-number_of}
use Rattle.stream_ident.proofs.SplitLemmas.{split_once-front, split_once-joined}
use Rattle.stream_ident.specs.declared.token.Token.{Token}
use Rattle.stream_ident.specs.declared.token.BadToken.{BadToken}

digit_no_stop : (byte : ℕ) → is_ascii_digit byte ≡ true → not (byte == 46) ≡ true
digit_no_stop byte h = grind (arith, nat_tests)

digits_no_stop : (bytes : List ℕ) → all_ascii_digits bytes ≡ true → list_all (λ byte. not (byte == 46)) bytes ≡ true
digits_no_stop [] h = refl
digits_no_stop (byte ∷ bytes) h =
    let parts = and_parts _ _ h in
    and_from _ _ (digit_no_stop byte parts.0) (digits_no_stop bytes parts.1)

pub token_of-token_text : (token : Token) → IsToken token → token_of (token_text token) ≡ Ok token
token_of-token_text token fits =
    let no_stop = digits_no_stop (decimal token.seq) (digits_decimal numerals token.seq fits.seq) in
    let wide : token.idx < 2 ^ 64 = omega (arith, fits.idx) in
    rw (split_once-front 46 (decimal token.seq) (decimal token.idx) no_stop, number_of-decimal token.seq fits.seq, number_of-decimal token.idx wide, lt-ltb token.idx (2 ^ 32) fits.idx) refl

parts_from : (split : Option (List ℕ × List ℕ)) (token : Token) → token_of_parts split ≡ Ok token → (parts : List ℕ × List ℕ) × (split ≡ Some parts) × (token_or (number_of parts.0) (narrowed (number_of parts.1)) ≡ Ok token)
parts_from None token e = cc
parts_from (Some parts) token e = (parts, refl, e)

numbers_from : (seq idx : Option ℕ) (token : Token) → token_or seq idx ≡ Ok token → (seq ≡ Some token.seq) × (idx ≡ Some token.idx)
numbers_from (Some seq) (Some idx) token e = (cc, cc)
numbers_from (Some seq) None token e = cc
numbers_from None idx token e = cc

narrow_from : (number : Option ℕ) (n : ℕ) → narrowed number ≡ Some n → (number ≡ Some n) × (n < 2 ^ 32)
narrow_from None n e = cc
narrow_from (Some m) n e =
    let found = cond_some _ _ _ e in
    (ap Some found.1, omega (arith, ltb-true _ _ found.0, found.1))

pub token_text-token_of : (bytes : List ℕ) (token : Token) → token_of bytes ≡ Ok token → (bytes ≡ token_text token) × IsToken token
token_text-token_of bytes token e =
    let split = parts_from (split_once 46 bytes) token e in
    let parts = split.0 in
    let numbers = numbers_from (number_of parts.0) (narrowed (number_of parts.1)) token split.2 in
    let narrow = narrow_from (number_of parts.1) token.idx numbers.1 in
    let seq = decimal-number_of parts.0 token.seq numbers.0 in
    let idx = decimal-number_of parts.1 token.idx narrow.0 in
    let joined = split_once-joined 46 bytes parts split.1 in
    (joined ∙ (ap (λ front. front ++ 46 ∷ parts.1) seq.0 ∙ ap (λ back. decimal token.seq ++ 46 ∷ back) idx.0), record { seq = seq.1; idx = narrow.1 })

-- what a token's text gives, and what no text gives
pub token_found : (bytes : List ℕ) (result : Result Token BadToken) → result ≡ token_of bytes → IfOk result (λ token. bytes ≡ token_text token)
token_found bytes (Ok token) e = (token_text-token_of bytes token (sym e)).0
token_found bytes (Err bad) e = tt

pub token_refused : (bytes : List ℕ) (result : Result Token BadToken) → result ≡ token_of bytes → OnErr result ((token : Token) → IsToken token → bytes ≢ token_text token)
token_refused bytes (Ok token) e = tt
token_refused bytes (Err bad) e = λ token fits same. let given = token_of-token_text token fits in let there = ap token_of same in cc

-- an order
pub token_lt-trans : (a b c : Token) → token_lt a b ≡ true → token_lt b c ≡ true → token_lt a c ≡ true
token_lt-trans a b c ab bc = grind (arith, nat_tests)
