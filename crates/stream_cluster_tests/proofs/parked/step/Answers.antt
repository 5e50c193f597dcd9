use Rattle.std.proofs.Common.{true, refl, subst}
use Rattle.silo_loops.specs.Chains.{Stays, Steps}
use Rattle.silo_loops.specs.Silos.{HasRun, SiloView}
use Rattle.stream_cluster_tests.proofs.parked.step.Goals as goal

pub returns-in-Agent : goal.returns-in-Agent
returns-in-Agent g c =
    subst (λ (s : SiloView). HasRun s (record { silo = c.loops.inside.silo; agent = c.advance.new.self; first = c.loops.inside.first; second = c.loops.inside.second })) c.loops.view_is
    (record { silo = refl; agent = Steps (c.advance.result, c.advance.ensures.advances) Stays; follows = λ _ _ _ _ _. true; first = Stays; second = Stays })

pub returns-in-First : goal.returns-in-First
returns-in-First g c =
    subst (λ (s : SiloView). HasRun s (record { silo = c.loops.inside.silo; agent = c.loops.inside.agent; first = c.advance-in-First.new.self; second = c.loops.inside.second })) c.loops.view_is
    (record { silo = refl; agent = Stays; follows = _; first = Steps (c.advance-in-First.result, c.advance-in-First.ensures.advances) Stays; second = Stays })

pub returns-in-Second : goal.returns-in-Second
returns-in-Second g c =
    subst (λ (s : SiloView). HasRun s (record { silo = c.loops.inside.silo; agent = c.loops.inside.agent; first = c.loops.inside.first; second = c.advance-in-Second.new.self })) c.loops.view_is
    (record { silo = refl; agent = Stays; follows = _; first = Stays; second = Steps (c.advance-in-Second.result, c.advance-in-Second.ensures.advances) Stays })
