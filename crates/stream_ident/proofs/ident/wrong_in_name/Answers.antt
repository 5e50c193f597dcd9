use Rattle.stream_ident.proofs.Prelude.{◌∙◌, sym, arith, length, eqb-false, length-take}
use Rattle.std.proofs.Common.{◌≢◌}
use Rattle.stream_ident.specs.declared.limits.TheConstants.{NAME_BYTES}
use Rattle.stream_ident.proofs.NameLemmas.{wrong_in_name-short}
use Rattle.stream_ident.proofs.ident.wrong_in_name.Goals as goal

pub returns-then-bytes-le-NAME_BYTES : goal.returns-then-bytes-le-NAME_BYTES
returns-then-bytes-le-NAME_BYTES c =
    let some : length c.args.bytes.now ≢ 0 = eqb-false _ _ (sym c.if-is_empty.ensures) in
    c.outside_alphabet.ensures.exact ∙ sym (wrong_in_name-short c.args.bytes.now (omega arith) c.if-bytes-le-NAME_BYTES.true)

pub slice_bounds-outside_alphabet-end : goal.slice_bounds-outside_alphabet-end
slice_bounds-outside_alphabet-end c = omega (arith, length-take NAME_BYTES c.args.bytes.now)
