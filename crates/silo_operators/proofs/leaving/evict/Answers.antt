use Rattle.silo_operators.proofs.Prelude.{goes-refl, goes-trans, on-refl, on-trans, Ok, inr, subst}
use Rattle.silo_loops.proofs.Going.{silents-refl}
use Rattle.silo_operators.specs.declared.halt.Halt.{Halt}
use Rattle.silo_operators.specs.Changes.{HoldsGrains, IsNoneLeft, IsRelease, Releases}
use Rattle.silo_operators.specs.declared.leaving.Release.{Release}
use Rattle.silo_operators.proofs.Making.{made-none, passed-on}
use Rattle.silo_operators.proofs.Changing.{all-gone, holds-refused, none-released, nowhere-silents, nowhere-trans, one-gone, released-on}
use Rattle.silo_operators.proofs.leaving.evict.Goals as goal

pub loop-init : goal.loop-init
loop-init g c = record { on = goes-refl c.args.lines.now.items; directory = on-refl c.args.directory.now; nowhere = nowhere-silents c.args.lines.now.items c.args.lines.now.items (silents-refl c.args.lines.now.items); deactivated = λ grain made. absurd (made-none (IsRelease c.args.silo grain) c.args.directory.now made); none = made-none (IsNoneLeft c.args.silo) c.args.directory.now }

pub loop-preserved : goal.loop-preserved
loop-preserved g c =
    let e = c.loop.directory in
    let f = c.take_grain.new.directory in
    let taken = subst (λ (r : Release). Releases c.args.silo e (Ok r) f) c.in-Grain.is c.in_ok-grain.ensures in
    let on = c.loop.invariant.on in
    let lines = c.deactivate_everywhere.ensures.on in
    record {
      on = goes-trans c.args.lines.now.items c.loop.lines.items c.deactivate_everywhere.new.lines.items on lines;
      directory = on-trans c.args.directory.now e f c.loop.invariant.directory (released-on c.args.silo e c.take_grain.result f c.take_grain.ensures);
      nowhere = nowhere-trans c.args.lines.now.items c.loop.lines.items c.deactivate_everywhere.new.lines.items on lines c.loop.invariant.nowhere c.in_ok-deactivate_everywhere-in-Grain.ensures.nowhere;
      deactivated =
          one-gone c.args.silo c.args.directory.now e f c.args.lines.now.items c.loop.lines.items c.deactivate_everywhere.new.lines.items c.in-Grain.grain c.loop.invariant.directory taken on lines
          c.in_ok-deactivate_everywhere-in-Grain.ensures.done c.loop.invariant.deactivated;
      none = none-released c.args.silo c.args.directory.now e f c.in-Grain.grain c.loop.invariant.directory taken c.loop.invariant.none;
    }

pub returns-in_err-deactivate_everywhere-in-Grain-clause-on : goal.returns-in_err-deactivate_everywhere-in-Grain-clause-on
returns-in_err-deactivate_everywhere-in-Grain-clause-on g c = goes-trans c.args.lines.now.items c.loop.lines.items c.deactivate_everywhere.new.lines.items c.loop.invariant.on c.deactivate_everywhere.ensures.on

pub returns-in_err-deactivate_everywhere-in-Grain-clause-directory : goal.returns-in_err-deactivate_everywhere-in-Grain-clause-directory
returns-in_err-deactivate_everywhere-in-Grain-clause-directory g c =
    on-trans c.args.directory.now c.loop.directory c.take_grain.new.directory c.loop.invariant.directory (released-on c.args.silo c.loop.directory c.take_grain.result c.take_grain.new.directory c.take_grain.ensures)

pub returns-in-NoneLeft : goal.returns-in-NoneLeft
returns-in-NoneLeft g c =
    let e = c.loop.directory in
    let f = c.take_grain.new.directory in
    let taken = subst (λ (r : Release). Releases c.args.silo e (Ok r) f) c.in-NoneLeft.is c.in_ok-grain.ensures in
    let gone = all-gone c.args.silo c.args.directory.now e f c.args.lines.now.items c.loop.lines.items c.loop.invariant.directory taken c.loop.invariant.deactivated in
    record {
      on = c.loop.invariant.on;
      directory = on-trans c.args.directory.now e f c.loop.invariant.directory (released-on c.args.silo e c.take_grain.result f c.take_grain.ensures);
      nowhere = c.loop.invariant.nowhere;
      deactivated = gone.0;
      none_left = gone.1;
      holds = tt;
    }

pub returns-in_err-grain-clause-holds : goal.returns-in_err-grain-clause-holds
returns-in_err-grain-clause-holds g c =
    let d = c.args.directory.now in
    let f = c.take_grain.new.directory in
    passed-on (λ (why : Halt). HoldsGrains why c.args.silo d f c.loop.lines.items) c.from_residual.result c.in_err-grain.field-0.0 c.from_residual.ensures.1
    (holds-refused c.in_err-grain.field-0.0 c.args.silo d c.loop.directory f c.loop.lines.items c.loop.invariant.directory c.in_err-grain.ensures c.loop.invariant.none)

pub returns-in_err-deactivate_everywhere-in-Grain-clause-holds : goal.returns-in_err-deactivate_everywhere-in-Grain-clause-holds
returns-in_err-deactivate_everywhere-in-Grain-clause-holds g c =
    let d = c.args.directory.now in
    let e = c.loop.directory in
    let f = c.take_grain.new.directory in
    let taken = subst (λ (r : Release). Releases c.args.silo e (Ok r) f) c.in-Grain.is c.in_ok-grain.ensures in
    passed-on (λ (why : Halt). HoldsGrains why c.args.silo d f c.deactivate_everywhere.new.lines.items) c.from_residual-in_err-deactivate_everywhere-in-Grain.result c.in_err-deactivate_everywhere-in-Grain.field-0.0 c.from_residual-in_err-deactivate_everywhere-in-Grain.ensures.1
    (none-released c.args.silo d e f c.in-Grain.grain c.loop.invariant.directory taken c.loop.invariant.none, inr c.in_err-deactivate_everywhere-in-Grain.ensures.found)

pub returns-in_err-grain-clause-directory : goal.returns-in_err-grain-clause-directory
returns-in_err-grain-clause-directory g c = on-trans c.args.directory.now c.loop.directory c.take_grain.new.directory c.loop.invariant.directory (released-on c.args.silo c.loop.directory c.take_grain.result c.take_grain.new.directory c.take_grain.ensures)
