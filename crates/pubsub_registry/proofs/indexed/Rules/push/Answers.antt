use Rattle.pubsub_registry.proofs.Prelude.{◌≡◌, ◌∙◌, List, [], ◌∷◌, ◌++◌, sym, ap, filter, same_name, Rule}
use Rattle.pubsub_registry.proofs.RuleLemmas.{ruled-push}
use Rattle.pubsub_registry.proofs.indexed.Rules.push.Goals as goal

pub invariant_of-self-in_err-push_to : goal.invariant_of-self-in_err-push_to
invariant_of-self-in_err-push_to c = λ namespace.
    c.in_err-push_to.ensures.err namespace ∙ c.self.invariant namespace
    ∙ ap (λ (rules : List Rule). filter (λ (rule : Rule). same_name namespace rule.namespace) rules) (sym c.reserve.ensures.items)

pub invariant_of-self-2 : goal.invariant_of-self-2
invariant_of-self-2 c = λ namespace.
    let items : c.push_reserved.new.self.items ≡ c.self.inside.rules.items ++ c.args.rule.now ∷ [] = c.push_reserved.ensures.items ∙ ap (λ (rules : List Rule). rules ++ c.args.rule.now ∷ []) c.reserve.ensures.items in
    ruled-push _ _ c.self.inside.rules.items c.args.rule.now c.self.invariant c.in_ok-push_to.ensures.ok namespace
    ∙ ap (λ (rules : List Rule). filter (λ (rule : Rule). same_name namespace rule.namespace) rules) (sym items)
