-- A number below 2 ^ 64 and its decimal text give one another.
use Rattle.stream_ident.proofs.Prelude.{sym, ap, ◌∙◌, arith, rules, inl, inr, and_parts, and_from, cases_lt, lt-ltb, ltb-true, nat_tests, digits_decimal, digits_value-decimal, decimal_nonempty, first_decimal, length-decimal-le, decimal-digits_value, cond_some, ◌^◌, not, slice_index, ◌==◌, nat_lt, Some, all_ascii_digits}
use Rattle.std.specs.Prelude.{◌≡◌, ℕ, ◌<◌, ◌≤◌, true, ◌&&◌, List, length, refl}
use Rattle.std.specs.Fmt.{decimal}
use Rattle.std.proofs.lemmas.Str.Parse.{IsNumeralModel, numerals_by_fold}
use Rattle.stream_ident.specs.Number.{value_after, is_numeral, number_of}

pub numerals : IsNumeralModel (λ ds. all_ascii_digits ds ≡ true) (value_after 0)
numerals = numerals_by_fold _ (search rules) value_after (search rules)

no_zero : (first n : ℕ) → (first ≡ 48 → n ≤ 1) → not ((first == 48) && nat_lt 1 n) ≡ true
no_zero first n short = grind (arith, nat_tests)

zero_alone : (first n : ℕ) → not ((first == 48) && nat_lt 1 n) ≡ true → 0 < n → first ≡ 48 → n ≡ 1
zero_alone first n alone some e = grind (arith, nat_tests)

pub is_numeral_from : (bytes : List ℕ) → all_ascii_digits bytes ≡ true → 0 < length bytes → (slice_index bytes 0 ≡ 48 → length bytes ≤ 1) → is_numeral bytes ≡ true
is_numeral_from bytes digits some short = and_from _ _ digits (and_from _ _ (lt-ltb _ _ some) (no_zero _ _ short))

-- digits, one at least, and a zero in front alone
pub is_numeral_parts : (bytes : List ℕ) → is_numeral bytes ≡ true → (all_ascii_digits bytes ≡ true) × (0 < length bytes) × (slice_index bytes 0 ≡ 48 → length bytes ≡ 1)
is_numeral_parts bytes numeral =
    let parts = and_parts _ _ numeral in
    let rest = and_parts _ _ parts.1 in
    let some : 0 < length bytes = ltb-true _ _ rest.0 in
    (parts.0, some, zero_alone _ _ rest.1 some)

pub number_from : (bytes : List ℕ) (n : ℕ) → is_numeral bytes ≡ true → value_after 0 bytes ≡ n → n < 2 ^ 64 → number_of bytes ≡ Some n
number_from bytes n numeral value small = rw (numeral, value, lt-ltb n (2 ^ 64) small) refl

first_of_decimal : (n : ℕ) → n < 2 ^ 64 → slice_index (decimal n) 0 ≡ 48 → length (decimal n) ≤ 1
first_of_decimal n small e =
    elim (cases_lt 0 n) [ inl h ↦ absurd (omega (arith, first_decimal n h small)) | inr h ↦ length-decimal-le 1 n (omega arith) (omega arith) small ]

pub number_of-decimal : (n : ℕ) → n < 2 ^ 64 → number_of (decimal n) ≡ Some n
number_of-decimal n small =
    number_from (decimal n) n
    (is_numeral_from (decimal n) (digits_decimal numerals n small) (decimal_nonempty n small) (first_of_decimal n small))
    (digits_value-decimal numerals n small) small

pub decimal-number_of : (bytes : List ℕ) (n : ℕ) → number_of bytes ≡ Some n → (bytes ≡ decimal n) × (n < 2 ^ 64)
decimal-number_of bytes n e =
    let found = cond_some _ _ _ e in
    let parts = and_parts _ _ found.0 in
    let numeral = is_numeral_parts bytes parts.0 in
    let small : value_after 0 bytes < 2 ^ 64 = ltb-true _ _ parts.1 in
    let text : decimal (value_after 0 bytes) ≡ bytes = decimal-digits_value numerals bytes numeral.0 numeral.1 numeral.2 small in
    (sym text ∙ ap decimal found.1, omega (arith, found.1))
