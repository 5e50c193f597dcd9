use Rattle.silo_loops.proofs.Prelude.{◌≡◌, List, length, replicate, Option, None, ℕ, ap, ◌∙◌, rules}
use Rattle.silo_loops.proofs.agent_steps.Agent.new.Goals as goal

pub returns-clause-made : goal.returns-clause-made
returns-clause-made g c =
    let long : c.len-queues.result ≡ length c.args.lines.items = search rules in
    ap (λ (held : List (Option ℕ)). record { lines = c.args.lines.items; held = held; at = c.new.result.at }) (c.in-Ok.ensures.items_if_clones_equal (search rules) ∙ ap (λ n. replicate n None) long)
