use Rattle.subscription_table.proofs.Prelude.{new_state, SubState, next_number, registration_of, tag_of, open_leaf, pushed, IsFirstPast, ◌≡◌, ◌∙◌, ◌++◌, ◌∷◌, [], ℕ, List, Some, None, refl, sym, ap, subst, sub_lt}
use Rattle.std.proofs.Common.{IfSome}
use Rattle.stream_ident.specs.declared.ident.SubName.TheVariants as name
use Rattle.ranked_index.specs.Leaves.{truncated}
use Rattle.subscription_table.specs.Standing.{name_of}
use Rattle.subscription_table.specs.Table.{PlainTable}
use Rattle.subscription_table.proofs.GrowLemmas.{table-subscribed}
use Rattle.subscription_table.proofs.RowLemmas.{below-pushed, rows-back}
use Rattle.subscription_table.proofs.TableLemmas.{same-table}
use Rattle.subscription_table.proofs.table.SubscriptionTable.subscribe.Goals as goal

pub invariant_of-self-in-Ok : goal.invariant_of-self-in-Ok
invariant_of-self-in-Ok c =
    let t : PlainTable = record { registry = c.self.inside.registry; states = c.self.inside.states.items } in
    let number = c.in-Some.number in
    let given : next_number t.registry ≡ Some number = sym c.next_number.ensures.number ∙ c.in-Some.is in
    let rank = c.first_past-rank.result in
    let first = subst (λ (order : List ℕ). IsFirstPast name_of sub_lt (Some (name.Explicit number)) t.registry.names order rank) c.numbers.ensures.numbers c.first_past-rank.ensures in
    let stated : c.push_reserved.new.self.items ≡ t.states ++ new_state c.args.start c.args.position ∷ [] =
    c.push_reserved.ensures.items ∙ ap (λ (states : List SubState). states ++ c.new.result ∷ []) c.reserve.ensures.items ∙ ap (λ (s : SubState). t.states ++ s ∷ []) c.new.ensures in
    let tagged : c.push_reserved-in-Ok.new.self.items ≡ c.self.inside.tags.items ++ tag_of c.args.stream ∷ [] =
    c.push_reserved-in-Ok.ensures.items ∙ ap (λ (tags : List ℕ). tags ++ c.stream_tag-tag.result ∷ []) c.reserve-2.ensures.items ∙ ap (λ (n : ℕ). c.self.inside.tags.items ++ n ∷ []) c.stream_tag-tag.ensures in
    table-subscribed c.self.invariant c.args.position c.requires.position
    c.add.new.self c.args.stream c.args.grain c.args.start c.in-Ok.added number rank given (c.in-Ok.ensures).performs
    (subst (λ next. IfSome next (λ number. registration_of t.registry (name.Explicit number) ≡ None)) c.in-Some.is c.next_number.ensures.new) first
    stated tagged c.in_ok-push.ensures

pub invariant_of-self-in-Err : goal.invariant_of-self-in-Err
invariant_of-self-in-Err c =
    let r = c.self.inside.resumes in
    let len = c.len-len.ensures in
    let rank = c.first_past-rank.result in
    let back : c.truncate.new.self ≡ r =
    c.truncate.ensures ∙ ap (truncated c.len-len.result) c.in_ok-push.ensures
    ∙ rows-back r (pushed rank (open_leaf c.args.position) r) (open_leaf c.args.position ∷ []) c.len-len.result len.len refl (below-pushed r rank c.args.position c.len-len.result len.ranking (len.len ∙ sym len.order)) in
    same-table c.self.invariant (c.in-Err.ensures).performs c.reserve.ensures.items c.reserve-2.ensures.items back
