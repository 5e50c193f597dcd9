use Rattle.subscription_table.proofs.Prelude.{truncated, ◌≡◌, ◌∙◌, refl, ap}
use Rattle.subscription_table.proofs.GrowLemmas.{implies, named-grown, table-implied}
use Rattle.subscription_table.proofs.LookLemmas.{table-named}
use Rattle.subscription_table.proofs.TableLemmas.{same-table}
use Rattle.subscription_table.proofs.table.SubscriptionTable.imply.Goals as goal

pub add_rows-added-requires-clause-named : goal.add_rows-added-requires-clause-named
add_rows-added-requires-clause-named c =
    let r = c.self.inside.registry in
    named-grown c.self.inside.resumes r.names c.imply.new.self.names (table-named c.self.invariant refl)
    (implies r c.imply.new.self c.args.events.now c.in_ok-imply.field-0 (c.in_ok-imply.ensures).performs).grown

pub invariant_of-self-in-Err : goal.invariant_of-self-in-Err
invariant_of-self-in-Err c =
    let r = c.self.inside.registry in
    let back : c.truncate.new.self ≡ r =
    c.truncate.ensures ∙ ap (truncated c.imply.new.self) c.len-len.ensures.len ∙ (implies r c.imply.new.self c.args.events.now c.in_ok-imply.field-0 (c.in_ok-imply.ensures).performs).back in
    same-table c.self.invariant back (c.in-Err.ensures).states (c.in-Err.ensures).tags (c.in-Err.ensures).same

pub returns-in-Err-clause-performs : goal.returns-in-Err-clause-performs
returns-in-Err-clause-performs c =
    let r = c.self.inside.registry in
    let back : c.truncate.new.self ≡ r =
    c.truncate.ensures ∙ ap (truncated c.imply.new.self) c.len-len.ensures.len ∙ (implies r c.imply.new.self c.args.events.now c.in_ok-imply.field-0 (c.in_ok-imply.ensures).performs).back in
    (λ i. record { registry = back i; states = (c.in-Err.ensures).states i }) ∙ c.self.view_is

pub invariant_of-self-in_default-added : goal.invariant_of-self-in_default-added
invariant_of-self-in_default-added c =
    table-implied c.self.invariant c.args.position c.requires.position
    (implies c.self.inside.registry c.imply.new.self c.args.events.now c.in_ok-imply.field-0 (c.in_ok-imply.ensures).performs)
    (c.in_default-added.ensures).states (c.in_default-added.ensures).tags (c.in_default-added.ensures).named
