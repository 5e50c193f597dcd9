use Rattle.silo_threads.proofs.Prelude.{◌≡◌, ◌∙◌, ℕ, arith, rules, subst, common_steps}
use Rattle.silo_operators.proofs.Spreading.{only-refl}
use Rattle.silo_threads.specs.Clusters.{AreStarted}
use Rattle.silo_threads.proofs.Standing.{made-more, made-none, only-trans, sits-on}
use Rattle.silo_threads.proofs.changes.make_all.Goals as goal

pub returns-in_err-made-clause-only : goal.returns-in_err-made-clause-only
returns-in_err-made-clause-only g c = only-refl c.args.operator.now

pub loop-silo-init : goal.loop-silo-init
loop-silo-init g c = record { made = made-none c.args.rounds c.args.operator.now c.in_ok-made.made.items c.in_ok-made.ensures.items; room = c.in_ok-made.ensures.exact ∙ c.from.ensures }

pub take_all_back-ends-requires-after_bounds : goal.take_all_back-ends-requires-after_bounds
take_all_back-ends-requires-after_bounds g c κs within = sits-on c.loop-silo.operator c.make_loops.new.self c.loop-silo.made.items c.make_loops.ensures.only.on c.loop-silo.invariant.made.runs

pub returns-in-Err-clause-only : goal.returns-in-Err-clause-only
returns-in-Err-clause-only g c =
    only-trans c.args.operator.now c.make_loops.new.self c.take_all_back-ends.new.operator (only-trans c.args.operator.now c.loop-silo.operator c.make_loops.new.self c.loop-silo.invariant.made.only c.make_loops.ensures.only) c.take_all_back-ends.ensures.only

pub loop-silo-preserved : goal.loop-silo-preserved
loop-silo-preserved g c =
    record {
      made =
          made-more c.args.rounds c.loop-silo.silo c.args.operator.now c.loop-silo.operator c.make_loops.new.self c.loop-silo.made.items c.push_reserved.new.self.items c.in-Ok.loops c.loop-silo.invariant.made c.in-Ok.ensures.same c.make_loops.ensures.only
          c.in-Ok.ensures.fresh c.in-Ok.ensures.at c.push_reserved.ensures.items;
      room = c.push_reserved.ensures.capacity ∙ c.loop-silo.invariant.room;
    }

pub returns : goal.returns
returns g c =
    let all : c.loop-silo.silo ≡ c.args.silos = first_of (omega (arith, c.loop-silo-test.false, c.loop-silo.auto.silo-end), search rules, grind (arith, common_steps)) in
    let made = c.loop-silo.invariant.made in
    record { same = made.same; only = made.only; made = (subst (λ (n : ℕ). AreStarted n c.loop-silo.made.items) all made.started, made.fresh, made.runs) }
