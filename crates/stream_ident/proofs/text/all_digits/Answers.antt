use Rattle.stream_ident.proofs.Prelude.{◌≡◌, ℕ, ◌&&◌, List, [], ◌∷◌, refl, ap, ◌∙◌, rules, tests, list_all, all_ascii_digits}
use Rattle.std.specs.Char.{is_ascii_digit}
use Rattle.std.proofs.lemmas.Iterator.{YieldsList-from_slice}
use Rattle.std.proofs.lemmas.Iterator.Search.{all_from_yields_List}
use Rattle.stream_ident.proofs.text.all_digits.Goals as goal

digits_are : (bytes : List ℕ) → list_all is_ascii_digit bytes ≡ all_ascii_digits bytes
digits_are [] = refl
digits_are (byte ∷ bytes) = ap (λ rest. is_ascii_digit byte && rest) (digits_are bytes)

pub returns : goal.returns
returns c =
    all_from_yields_List is_ascii_digit _ _ _ c.all.ensures.ran (YieldsList-from_slice c.args.bytes.now cc) (λ x b q k. search (rules, tests)) ∙ digits_are c.args.bytes.now
