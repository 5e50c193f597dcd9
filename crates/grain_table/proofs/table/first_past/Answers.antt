use Rattle.grain_table.proofs.Prelude.{first_past-from, is_up_to, ap, rules, option_copied, grain_order, grain_lt, same_grain}
use Rattle.std.proofs.lemmas.List.Sorted.{IsPartitionPoint-from_clause}
use Rattle.grain_table.specs.Table.{name_of}
use Rattle.grain_table.proofs.table.first_past.Goals as goal

pub returns : goal.returns
returns c =
    let entries = c.args.entries.now in
    let order = c.args.numbers.now in
    let grain = c.in-Some.grain.now in
    first_past-from name_of grain_lt same_grain grain_order entries order c.requires grain (option_copied c.args.after) c.partition_point.result (ap option_copied c.in-Some.is) c.partition_point.ensures.bound
    (λ parted. IsPartitionPoint-from_clause (is_up_to name_of grain_lt entries grain) order _ c.partition_point.ensures.partitioned parted (λ a r q k. search rules))
