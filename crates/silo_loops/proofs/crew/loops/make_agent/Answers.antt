use Rattle.silo_loops.proofs.Prelude.{refl, rules, sym, subst, AllZip}
use Rattle.silo_loops.specs.Agents.{AgentView}
use Rattle.silo_loops.specs.Silos.{IsAgentAt, IsFreshAgent, IsSplitLine}
use Rattle.silo_loops.proofs.Going.{goes-refl, split-at, split-marked}
use Rattle.silo_loops.proofs.crew.loops.make_agent.Goals as goal

pub returns-in_err-kit-clause-go_on : goal.returns-in_err-kit-clause-go_on
returns-in_err-kit-clause-go_on g c = goes-refl c.args.lines.now.items

pub returns-in-Ok-clause-fresh : goal.returns-in-Ok-clause-fresh
returns-in-Ok-clause-fresh g c =
    let split = c.in_ok-own.ensures.new in
    subst (λ (a : AgentView). IsFreshAgent c.args.tools.now.rounds a × IsAgentAt c.split_lines.new.lines.items a) (sym c.in-Ok.ensures.made)
    ((split-marked _ _ split, refl, refl), split-at _ _ _ split c.split_lines.ensures.go_on)

pub join_lines-requires-after_bounds : goal.join_lines-requires-after_bounds
join_lines-requires-after_bounds g c κs within =
    let same = c.in-Err.ensures.back in
    let at = split-at _ _ _ c.in_ok-own.ensures.new c.split_lines.ensures.go_on in
    search (rules, same, at)

pub returns-in-Ok-clause-split : goal.returns-in-Ok-clause-split
returns-in-Ok-clause-split g c = subst (λ (a : AgentView). AllZip IsSplitLine c.args.lines.now.items a.lines) (sym c.in-Ok.ensures.made) c.in_ok-own.ensures.new
