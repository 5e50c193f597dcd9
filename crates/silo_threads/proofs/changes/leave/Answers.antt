use Rattle.silo_threads.proofs.Prelude.{DirectoryPass, SiloView, List, OnOk, ℕ, arith, ap, length, subst, sym, ◌∙◌, ◌<◌, ◌≡◌, slice_get_within, IfErr-weaker, on_err_weaker, on_ok_weaker}
use Rattle.silo_operators.specs.declared.halt.Halt.{Halt}
use Rattle.silo_operators.specs.declared.halt.Halt.TheVariants as halt
use Rattle.silo_operators.specs.Changes.{HaveStayed}
use Rattle.silo_operators.specs.Operators.{HasSpread, IsUnspread, OperatorView}
use Rattle.silo_operators.proofs.Making.{passed-on}
use Rattle.silo_threads.specs.Clusters.{HasLeft, HasMetLimit, IsEmptied}
use Rattle.silo_operators.proofs.Changing.{op-trans}
use Rattle.silo_threads.proofs.Standing.{emptied-whole, evict-met, left-some, left-whole, on_ok_both, op-same, spread-met, taken-op}
use Rattle.silo_threads.proofs.changes.leave.Goals as goal

pub returns-in_err-evict-clause-on : goal.returns-in_err-evict-clause-on
returns-in_err-evict-clause-on g c = op-trans c.args.operator.now c.take_back.new.self c.evict.new.self c.take_back.ensures.only.on c.evict.ensures.only.on

pub dismiss-requires-after_bounds : goal.dismiss-requires-after_bounds
dismiss-requires-after_bounds g c κs within =
    let same = ap (λ (xs : List ℕ). length xs) (c.evict.ensures.only.live ∙ c.take_back.ensures.only.live) in
    omega (arith, slice_get_within c.args.operator.now.live c.args.place c.args.loops.silo c.requires.place, same)

pub returns-in_err-evict-clause-limit : goal.returns-in_err-evict-clause-limit
returns-in_err-evict-clause-limit g c =
    let u = c.args.operator.now in
    let w = c.evict.new.self in
    let on = op-trans u c.take_back.new.self w c.take_back.ensures.only.on c.evict.ensures.only.on in
    passed-on (λ (why : Halt). why ≡ halt.Limit → HasMetLimit u w) c.from_residual.result c.in_err-evict.field-0.0 c.from_residual.ensures.1
    (λ is. evict-met u w c.loops.inside.silo c.take_back.new.self.directory on c.in_err-evict.field-0.0 is c.in_err-evict.ensures.holds)

pub returns-in_err-evict-clause-taken : goal.returns-in_err-evict-clause-taken
returns-in_err-evict-clause-taken g c = taken-op c.take_back.new.self c.evict.new.self c.args.loops c.evict.ensures.only.on c.take_back.ensures.taken

pub returns : goal.returns
returns g c =
    let u = c.args.operator.now in
    let back = c.take_back.new.self in
    let emptied = c.evict.new.self in
    let v = c.dismiss.new.self in
    let w = c.spread.new.self in
    let silo = ap (λ (s : SiloView). s.silo) c.loops.view_is in
    let gone = op-same emptied v (ap (λ (o : OperatorView). o.lines) c.dismiss.ensures) (ap (λ (o : OperatorView). o.directory) c.dismiss.ensures) in
    let on = op-trans u emptied v (op-trans u back emptied c.take_back.ensures.only.on c.evict.ensures.only.on) gone in
    let later = op-trans back emptied w c.evict.ensures.only.on (op-trans emptied v w gone c.spread.ensures.on) in
    let long = ap (λ (xs : List ℕ). length xs) (c.evict.ensures.only.live ∙ c.take_back.ensures.only.live) in
    let within : c.args.place < length emptied.live = omega (arith, slice_get_within u.live c.args.place c.args.loops.silo c.requires.place, long) in
    let more : 1 < length emptied.live = omega (arith, c.requires.others, long) in
    let live = ap (λ (o : OperatorView). o.live) c.dismiss.ensures in
    let kept : w.directory ≡ emptied.directory = c.spread.ensures.directory ∙ ap (λ (o : OperatorView). o.directory) c.dismiss.ensures in
    let none_left = emptied-whole c.loops.inside.silo back.lines back.directory emptied.directory c.args.loops silo c.take_back.ensures.taken c.in_ok-evict.ensures.none_left in
    record {
      on = op-trans u v w on c.spread.ensures.on;
      taken = taken-op back w c.args.loops later c.take_back.ensures.taken;
      left =
          subst (λ (k : ℕ). OnOk c.spread.result (HasLeft k c.args.place u w)) silo
          (on_ok_both c.spread.result
          (λ (spread : HasSpread v w) (stayed : HaveStayed v.lines w.lines v.assignment w.assignment).
          left-whole c.loops.inside.silo c.args.place u back emptied v w c.take_back.ensures.only c.take_back.ensures.silent c.take_back.ensures.silent_lines c.evict.ensures.only c.in_ok-evict.ensures.nowhere c.in_ok-evict.ensures.deactivated c.in_ok-evict.ensures.none_left c.dismiss.ensures
          c.spread.ensures.on c.spread.ensures.directory c.spread.ensures.live spread stayed)
          c.spread.ensures.spread c.spread.ensures.stayed);
      emptied = on_ok_weaker c.spread.result (λ (spread : HasSpread v w). subst (λ (d : DirectoryPass). IsEmptied d c.args.loops) (sym kept) none_left) c.spread.ensures.spread;
      kept = on_err_weaker c.spread.result (λ same. same ∙ ap (λ (o : OperatorView). o.assignment) c.dismiss.ensures ∙ c.evict.ensures.only.assignment ∙ c.take_back.ensures.only.assignment) c.spread.ensures.kept;
      limit =
          IfErr-weaker c.spread.result (λ (why : Halt). IsUnspread why v.assignment v.live v.lines w.lines) (λ (why : Halt). why ≡ halt.Limit → HasMetLimit u w)
          (λ why unspread is. spread-met u v w on (λ none. left-some emptied.live c.args.place within more (sym live ∙ none)) why is unspread) c.spread.ensures.unspread;
    }
