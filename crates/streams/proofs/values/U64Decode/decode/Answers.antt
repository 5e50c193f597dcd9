use Rattle.streams.proofs.Prelude.{◌≡◌, ◌∙◌, sym, rules}
use Rattle.std.proofs.lemmas.Fmt.{parse-decimal}
use Rattle.streams.proofs.values.U64Decode.decode.Goals as goal

pub returns-in-Ok-clause-found : goal.returns-in-Ok-clause-found
returns-in-Ok-clause-found c = λ value fits same.
    let read = parse-decimal 64 value c.as_str-text.result.now c.parse.result fits fits (c.as_str-text.ensures ∙ sym same) c.parse.ensures.value.0 in
    cc (read, c.in-Ok.is)

pub returns-in_default-clause-exact : goal.returns-in_default-clause-exact
returns-in_default-clause-exact c = λ value fits same.
    let read = parse-decimal 64 value c.as_str-text.result.now c.parse.result fits fits (c.as_str-text.ensures ∙ sym same) c.parse.ensures.value.0 in
    let text : c.format.result.now ≡ c.as_str-text.result.now = cc (read, c.in-Ok.is, same) in
    search rules

pub returns-in_default-clause-found : goal.returns-in_default-clause-found
returns-in_default-clause-found c = λ value fits same. absurd (returns-in_default-clause-exact c value fits same)

pub returns-in_default-2-clause-exact : goal.returns-in_default-2-clause-exact
returns-in_default-2-clause-exact c = λ value fits same.
    let read = parse-decimal 64 value c.as_str-text.result.now c.parse.result fits fits (c.as_str-text.ensures ∙ sym same) c.parse.ensures.value.0 in
    absurd (cc (read, c.in_default.is))

pub returns-in_default-2-clause-found : goal.returns-in_default-2-clause-found
returns-in_default-2-clause-found c = λ value fits same. absurd (returns-in_default-2-clause-exact c value fits same)
