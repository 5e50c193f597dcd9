use Rattle.silo_threads.proofs.Prelude.{◌≡◌, ◌∙◌, ℕ, arith, rules, subst, common_steps}
use Rattle.silo_operators.proofs.Spreading.{only-refl}
use Rattle.silo_threads.specs.Clusters.{AreStarted}
use Rattle.silo_threads.proofs.Standing.{made-more, made-none, only-trans, sits-on}
use Rattle.silo_threads.proofs.changes.start_all.Goals as goal

pub returns-in_err-running-clause-only : goal.returns-in_err-running-clause-only
returns-in_err-running-clause-only g c = only-refl c.args.operator.now

pub loop-silo-init : goal.loop-silo-init
loop-silo-init g c = record { made = made-none c.args.rounds c.args.operator.now c.in_ok-running.running.items c.in_ok-running.ensures.items; room = c.in_ok-running.ensures.exact ∙ c.from.ensures }

pub stop_all-stopped-requires-after_bounds : goal.stop_all-stopped-requires-after_bounds
stop_all-stopped-requires-after_bounds g c κs within = sits-on c.loop-silo.operator c.start_silo.new.operator c.loop-silo.running.items c.start_silo.ensures.only.on c.loop-silo.invariant.made.runs

pub returns-in-Err-clause-only : goal.returns-in-Err-clause-only
returns-in-Err-clause-only g c =
    only-trans c.args.operator.now c.start_silo.new.operator c.stop_all-stopped.new.operator (only-trans c.args.operator.now c.loop-silo.operator c.start_silo.new.operator c.loop-silo.invariant.made.only c.start_silo.ensures.only) c.stop_all-stopped.ensures.only

pub loop-silo-preserved : goal.loop-silo-preserved
loop-silo-preserved g c =
    record {
      made =
          made-more c.args.rounds c.loop-silo.silo c.args.operator.now c.loop-silo.operator c.start_silo.new.operator c.loop-silo.running.items c.push_reserved.new.self.items c.in-Ok.started c.loop-silo.invariant.made c.in-Ok.ensures.same c.start_silo.ensures.only
          c.in-Ok.ensures.started.0 c.in-Ok.ensures.started.1 c.push_reserved.ensures.items;
      room = c.push_reserved.ensures.capacity ∙ c.loop-silo.invariant.room;
    }

pub returns : goal.returns
returns g c =
    let all : c.loop-silo.silo ≡ c.args.silos = first_of (omega (arith, c.loop-silo-test.false, c.loop-silo.auto.silo-end), search rules, grind (arith, common_steps)) in
    let made = c.loop-silo.invariant.made in
    record { same = made.same; only = made.only; started = (subst (λ (n : ℕ). AreStarted n c.loop-silo.running.items) all made.started, made.fresh, made.runs) }
