use Rattle.subscription_table.proofs.Prelude.{first_past-from, is_up_to, ap, rules, option_copied, sub_order, same_sub, sub_lt}
use Rattle.std.proofs.lemmas.List.Sorted.{IsPartitionPoint-from_clause}
use Rattle.subscription_table.specs.Standing.{name_of}
use Rattle.subscription_table.proofs.table.first_past.Goals as goal

pub returns : goal.returns
returns c =
    let names = c.args.registry.now.names in
    let order = c.args.order.now in
    let name = c.in-Some.name.now in
    first_past-from name_of sub_lt same_sub sub_order names order c.requires name (option_copied c.args.after) c.partition_point.result (ap option_copied c.in-Some.is) c.partition_point.ensures.bound
    (λ parted. IsPartitionPoint-from_clause (is_up_to name_of sub_lt names name) order _ c.partition_point.ensures.partitioned parted (λ a r q k. search rules))
