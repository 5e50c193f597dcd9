use Rattle.streams.proofs.Prelude.{◌≡◌, ◌∙◌, ◌<◌, ◌^◌, Ok, sym, ap, w64, SFits, of_z, to_z-of_z, rules}
use Rattle.std.proofs.lemmas.Fmt.{parse-signed_decimal}
use lib.IntN.{ℤ}
use lib.Signed.{mag}
use mir.Val.{to_z}
use Rattle.streams.proofs.values.I64Decode.decode.Goals as goal

fits_signed : (z : ℤ) → mag z < 2 ^ 63 → SFits w64 z
fits_signed z small = search (rules, small)

pub returns-in-Ok-clause-found : goal.returns-in-Ok-clause-found
returns-in-Ok-clause-found c = λ value small same.
    let read = parse-signed_decimal w64 value c.as_str-text.result.now c.parse.result (fits_signed value small) small (c.as_str-text.ensures ∙ sym same) c.parse.ensures.value.0 in
    let found : c.in-Ok.value ≡ value = cc (read, c.in-Ok.is) in
    ap (λ z. Ok (to_z w64 (of_z w64 z))) found ∙ ap Ok (to_z-of_z (fits_signed value small))

pub returns-in_default-clause-exact : goal.returns-in_default-clause-exact
returns-in_default-clause-exact c = λ value small same.
    let read = parse-signed_decimal w64 value c.as_str-text.result.now c.parse.result (fits_signed value small) small (c.as_str-text.ensures ∙ sym same) c.parse.ensures.value.0 in
    let found : c.in-Ok.value ≡ value = cc (read, c.in-Ok.is) in
    let again : to_z w64 (of_z w64 c.in-Ok.value) ≡ value = ap (λ z. to_z w64 (of_z w64 z)) found ∙ to_z-of_z (fits_signed value small) in
    let text : c.format.result.now ≡ c.as_str-text.result.now = cc (again, same, c.format.ensures.text) in
    search rules

pub returns-in_default-clause-found : goal.returns-in_default-clause-found
returns-in_default-clause-found c = λ value small same. absurd (returns-in_default-clause-exact c value small same)

pub returns-in_default-2-clause-exact : goal.returns-in_default-2-clause-exact
returns-in_default-2-clause-exact c = λ value small same.
    let read = parse-signed_decimal w64 value c.as_str-text.result.now c.parse.result (fits_signed value small) small (c.as_str-text.ensures ∙ sym same) c.parse.ensures.value.0 in
    absurd (cc (read, c.in_default.is))

pub returns-in_default-2-clause-found : goal.returns-in_default-2-clause-found
returns-in_default-2-clause-found c = λ value small same. absurd (returns-in_default-2-clause-exact c value small same)
