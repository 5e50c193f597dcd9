use Rattle.script_checker.proofs.Prelude.{not, ap, length, ◌∙◌, arith}
use Rattle.std.specs.Prelude.{unwrap_or}
use Rattle.stream_ident.specs.Alphabet.{is_printable}
use Rattle.stream_script.proofs.PieceLemmas.{unwrap_or-position}
use Rattle.script_checker.proofs.finding.bad_byte.Goals as goal

pub returns-in-None-clause-byte : goal.returns-in-None-clause-byte
returns-in-None-clause-byte c =
    let bytes = c.args.bytes.now in
    let places = c.at_end.ensures in
    let none = ap (λ found. unwrap_or found (length bytes)) c.in-None.ensures.exact ∙ unwrap_or-position (λ byte. not (is_printable byte)) bytes in
    (places.0 ∙ none, omega (arith, places.0, places.1))
