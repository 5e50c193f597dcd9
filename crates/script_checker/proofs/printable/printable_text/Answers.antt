use Rattle.script_checker.proofs.Prelude.{◌≡◌, ◌∙◌, ◌<◌, ℕ, true, get_or, sym, arith, and_parts, leb-true}
use Rattle.std.proofs.lemmas.List.Sums.{AllPass-from_list_all}
use Rattle.std.proofs.lemmas.Str.{IsUtf8-from_ascii}
use Rattle.std.proofs.lemmas.Str.Ascii.{IsAscii-from_all}
use Rattle.stream_ident.specs.Alphabet.{is_printable}
use Rattle.script_checker.proofs.printable.printable_text.Goals as goal

small : (byte : ℕ) → is_printable byte ≡ true → byte < 128
small byte e = omega (arith, leb-true byte 126 (and_parts _ _ e).1)

pub unreachable-requires : goal.unreachable-requires
unreachable-requires c =
    let bytes = c.args.bytes.now in
    let good = AllPass-from_list_all is_printable bytes (sym c.are_printable.ensures ∙ c.if-not-are_printable.false) in
    c.in_default.ensures.cases.0 (IsUtf8-from_ascii _ (IsAscii-from_all bytes (λ k d below. small (get_or bytes k d) (good k d below))))
