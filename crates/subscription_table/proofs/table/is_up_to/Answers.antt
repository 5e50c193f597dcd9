use Rattle.subscription_table.proofs.Prelude.{some_up_to, ◌∙◌, ◌<◌, length, not, sym, ap, arith, slice_get-get_or, sub_lt}
use Rattle.subscription_table.specs.Standing.{name_of}
use Rattle.subscription_table.specs.Table.{no_entry}
use Rattle.subscription_table.proofs.table.is_up_to.Goals as goal

pub returns-then-number-len : goal.returns-then-number-len
returns-then-number-len c =
    let names = c.args.registry.now.names in
    let name = c.args.name.now in
    let within : c.args.number < length names = omega (arith, c.if-number-len.true, c.len.ensures.len) in
    ap not (c.is_before.ensures ∙ ap (sub_lt name) c.name.ensures)
    ∙ sym (ap (some_up_to name_of sub_lt name) (slice_get-get_or names c.args.number no_entry within))
