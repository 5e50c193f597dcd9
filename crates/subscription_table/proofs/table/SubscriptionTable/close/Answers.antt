use Rattle.subscription_table.proofs.Prelude.{closed, ◌∙◌, ◌<◌, length, ap, arith, get_or_read}
use Rattle.subscription_table.specs.Table.{no_state}
use Rattle.subscription_table.proofs.CloseLemmas.{close-is, refused-is, names-closed, table-closed}
use Rattle.subscription_table.proofs.LookLemmas.{leaf-within}
use Rattle.subscription_table.proofs.table.SubscriptionTable.close.Goals as goal

pub refresh-requires-clause-within : goal.refresh-requires-clause-within
refresh-requires-clause-within c = leaf-within c.self.invariant c.self.view_is c.args.number c.requires

pub invariant_of-self : goal.invariant_of-self
invariant_of-self c =
    let within : c.args.number < length c.self.inside.registry.names = omega (arith, c.if-prove.false, c.len.ensures.len) in
    let read = get_or_read c.self.inside.states.items c.args.number c.index_mut-state.result.now (omega (arith, within, c.self.invariant.records.long)) c.index_mut-state.ensures.value no_state in
    table-closed c.self.invariant c.args.number within c.len.ensures.unique c.close-closing.new.self (names-closed c.self.view_is c.args.number c.at-sub.ensures c.close-closing.ensures c.in-Done.is) (c.close.ensures ∙ ap closed read) c.refresh.ensures

pub returns-in-Done : goal.returns-in-Done
returns-in-Done c =
    let within : c.args.number < length c.self.inside.registry.names = omega (arith, c.if-prove.false, c.len.ensures.len) in
    let read = get_or_read c.self.inside.states.items c.args.number c.index_mut-state.result.now (omega (arith, within, c.self.invariant.records.long)) c.index_mut-state.ensures.value no_state in
    close-is c.self.view_is c.args.number c.at-sub.ensures c.close-closing.ensures c.in-Done.is (c.close.ensures ∙ ap closed read)

pub returns-in_default : goal.returns-in_default
returns-in_default c = refused-is c.self.view_is c.args.number c.at-sub.ensures c.close-closing.ensures c.in_default.not-Done
