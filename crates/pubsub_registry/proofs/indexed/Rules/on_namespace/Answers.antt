use Rattle.pubsub_registry.proofs.Prelude.{◌∙◌, List, ap, filter, same_name, Rule}
use Rattle.pubsub_registry.proofs.indexed.Rules.on_namespace.Goals as goal

pub returns : goal.returns
returns c =
    c.row.ensures ∙ c.self.invariant c.args.namespace.now
    ∙ ap (λ (rules : List Rule). filter (λ (rule : Rule). same_name c.args.namespace.now rule.namespace) rules) c.self.view_is
