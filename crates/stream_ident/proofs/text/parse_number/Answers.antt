use Rattle.stream_ident.proofs.Prelude.{◌≡◌, ℕ, ◌<◌, ◌≤◌, true, List, length, sym, ◌∙◌, arith, refl, inl, inr, le-ltb, cases_lt, IsAscii-from_digits}
use Rattle.std.proofs.Common.{◌^◌, Result, Ok, Err}
use Rattle.std.specs.Result.{OkIff, result_ok}
use Rattle.std.proofs.lemmas.Str.Parse.{parse_digits}
use Rattle.stream_ident.specs.Number.{is_numeral, number_of, value_after}
use Rattle.stream_ident.proofs.NumberLemmas.{numerals, is_numeral_parts, number_from}
use Rattle.stream_ident.proofs.text.parse_number.Goals as goal

number_by_parse : {E : Type 0} (bytes : List ℕ) (r : Result ℕ E) → is_numeral bytes ≡ true → OkIff r ((0 < length bytes) × (value_after 0 bytes < 2 ^ 64)) (value_after 0 bytes) → result_ok r ≡ number_of bytes
number_by_parse bytes (Ok n) numeral h =
    let small : n < 2 ^ 64 = omega (arith, h.0.1, h.1) in
    sym (number_from bytes n numeral (sym h.1) small)
number_by_parse bytes (Err e) numeral h =
    let some = (is_numeral_parts bytes numeral).1 in
    let large : 2 ^ 64 ≤ value_after 0 bytes = elim (cases_lt (value_after 0 bytes) (2 ^ 64)) [ inl l ↦ absurd (h (some, l)) | inr l ↦ l ] in
    rw (numeral, le-ltb (value_after 0 bytes) (2 ^ 64) large) refl

pub ascii_text-requires : goal.ascii_text-requires
ascii_text-requires c =
    let numeral : is_numeral c.args.bytes.now ≡ true = sym c.is_numeral.ensures ∙ c.if-not-is_numeral.false in
    IsAscii-from_digits c.args.bytes.now (numerals.to c.args.bytes.now (is_numeral_parts c.args.bytes.now numeral).0)

pub returns : goal.returns
returns c =
    let numeral : is_numeral c.args.bytes.now ≡ true = sym c.is_numeral.ensures ∙ c.if-not-is_numeral.false in
    let parsed = rw c.ascii_text.ensures at c.parse.ensures.value.0 in
    c.ok.ensures.value ∙ number_by_parse c.args.bytes.now c.parse.result numeral (parse_digits numerals 64 c.args.bytes.now c.parse.result parsed (is_numeral_parts c.args.bytes.now numeral).0)
