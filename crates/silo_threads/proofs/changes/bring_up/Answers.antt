use Rattle.silo_threads.proofs.Prelude.{LineView, IsSiloAt, SiloView, List, OnOk, ap, inl, inr, subst, sym, ℕ, ◌∙◌, ◌++◌, ◌∷◌, [], ◌≡◌, IfErr-weaker, on_err_weaker, on_ok_weaker, All-push}
use Rattle.silo_operators.specs.declared.halt.Halt.{Halt}
use Rattle.silo_operators.specs.declared.halt.Halt.TheVariants as halt
use Rattle.silo_operators.specs.Changes.{HaveOnlySeen, HaveStayed}
use Rattle.silo_operators.specs.Operators.{HasSpread, IsUnspread, OperatorView}
use Rattle.silo_threads.specs.Clusters.{AreFresh, HasMetLimit, RunsOn}
use Rattle.silo_operators.proofs.Changing.{op-trans}
use Rattle.silo_threads.proofs.Standing.{came-some, fresh-push, op-refl, op-same, sits-on, spread-from, spread-met}
use Rattle.silo_threads.proofs.changes.bring_up.Goals as goal

pub returns-in_err-reserve-clause-on : goal.returns-in_err-reserve-clause-on
returns-in_err-reserve-clause-on g c = op-refl c.args.operator.now

pub returns-in_err-start_silo-clause-at : goal.returns-in_err-start_silo-clause-at
returns-in_err-start_silo-clause-at g c =
    subst (λ (ss : List SiloView). RunsOn c.start_silo.new.operator ss) (sym c.reserve.ensures.items)
    (sits-on c.args.operator.now c.start_silo.new.operator c.args.silos.now.items c.start_silo.ensures.only.on c.requires.at)

pub returns-in_err-enlist-clause-at : goal.returns-in_err-enlist-clause-at
returns-in_err-enlist-clause-at g c =
    let whole = c.push_reserved.ensures.items ∙ ap (λ (ss : List SiloView). ss ++ c.in_ok-start_silo.field-0 ∷ []) c.reserve.ensures.items in
    let runs = All-push (IsSiloAt c.start_silo.new.operator.lines c.start_silo.new.operator.directory) c.args.silos.now.items c.in_ok-start_silo.field-0
    (sits-on c.args.operator.now c.start_silo.new.operator c.args.silos.now.items c.start_silo.ensures.only.on c.requires.at) c.in_ok-start_silo.ensures.started.1 in
    subst (λ (o : OperatorView). RunsOn o c.push_reserved.new.self.items) (sym c.in_err-enlist.ensures.err)
    (subst (λ (ss : List SiloView). RunsOn c.start_silo.new.operator ss) (sym whole) runs)

pub returns-in_err-start_silo-clause-fresh : goal.returns-in_err-start_silo-clause-fresh
returns-in_err-start_silo-clause-fresh g c = subst (λ (ss : List SiloView). AreFresh c.args.rounds ss) (sym c.reserve.ensures.items) c.requires.fresh

pub returns-in_err-enlist-clause-fresh : goal.returns-in_err-enlist-clause-fresh
returns-in_err-enlist-clause-fresh g c =
    let whole = c.push_reserved.ensures.items ∙ ap (λ (ss : List SiloView). ss ++ c.in_ok-start_silo.field-0 ∷ []) c.reserve.ensures.items in
    subst (λ (ss : List SiloView). AreFresh c.args.rounds ss) (sym whole) (fresh-push c.args.rounds c.args.silo c.args.silos.now.items c.in_ok-start_silo.field-0 c.requires.fresh c.in_ok-start_silo.ensures.started.0)

pub returns-in_err-reserve-clause-others : goal.returns-in_err-reserve-clause-others
returns-in_err-reserve-clause-others g c = inl c.reserve.ensures.items

pub returns-in_err-start_silo-clause-others : goal.returns-in_err-start_silo-clause-others
returns-in_err-start_silo-clause-others g c = inl c.reserve.ensures.items

pub returns-in_err-enlist-clause-others : goal.returns-in_err-enlist-clause-others
returns-in_err-enlist-clause-others g c =
    let whole : c.push_reserved.new.self.items ≡ c.args.silos.now.items ++ c.in_ok-start_silo.field-0 ∷ [] = c.push_reserved.ensures.items ∙ ap (λ (ss : List SiloView). ss ++ c.in_ok-start_silo.field-0 ∷ []) c.reserve.ensures.items in
    inr (c.in_ok-start_silo.field-0, whole, c.in_ok-start_silo.ensures.started.0.0)

pub returns : goal.returns
returns g c =
    let u = c.args.operator.now in
    let started = c.start_silo.new.operator in
    let v = c.enlist.new.self in
    let w = c.spread.new.self in
    let s = c.in_ok-start_silo.field-0 in
    let ok = c.in_ok-start_silo.ensures in
    let enlisted = c.in_ok-enlist.ensures.ok in
    let more : c.push_reserved.new.self.items ≡ c.args.silos.now.items ++ s ∷ [] = c.push_reserved.ensures.items ∙ ap (λ (ss : List SiloView). ss ++ s ∷ []) c.reserve.ensures.items in
    let runs = All-push (IsSiloAt started.lines started.directory) c.args.silos.now.items s (sits-on u started c.args.silos.now.items c.start_silo.ensures.only.on c.requires.at) ok.started.1 in
    let same = op-same started v (ap (λ (o : OperatorView). o.lines) enlisted) (ap (λ (o : OperatorView). o.directory) enlisted) in
    let on = op-trans u started v c.start_silo.ensures.only.on same in
    let lines = ap (λ (o : OperatorView). o.lines) enlisted ∙ ap (λ (o : OperatorView). o.lines) ok.same in
    let assignment = ap (λ (o : OperatorView). o.assignment) enlisted ∙ c.start_silo.ensures.only.assignment in
    let live = ap (λ (o : OperatorView). o.live) enlisted in
    record {
      at = sits-on started w c.push_reserved.new.self.items (op-trans started v w same c.spread.ensures.on) (subst (λ (ss : List SiloView). RunsOn started ss) (sym more) runs);
      fresh = subst (λ (ss : List SiloView). AreFresh c.args.rounds ss) (sym more) (fresh-push c.args.rounds c.args.silo c.args.silos.now.items s c.requires.fresh ok.started.0);
      on = op-trans u v w on c.spread.ensures.on;
      seen = on_ok_weaker c.spread.result (λ (spread : HasSpread v w). subst (λ (ls : List LineView). HaveOnlySeen ls w.lines) lines c.spread.ensures.seen) c.spread.ensures.spread;
      directory = on_ok_weaker c.spread.result (λ (spread : HasSpread v w). c.spread.ensures.directory ∙ ap (λ (o : OperatorView). o.directory) enlisted ∙ ap (λ (o : OperatorView). o.directory) ok.same) c.spread.ensures.spread;
      live = on_ok_weaker c.spread.result (λ (spread : HasSpread v w). c.spread.ensures.live ∙ live ∙ ap (λ (xs : List ℕ). xs ++ c.args.silo ∷ []) c.start_silo.ensures.only.live) c.spread.ensures.spread;
      started = on_ok_weaker c.spread.result (λ (spread : HasSpread v w). (s, more, ok.started.0, ok.split)) c.spread.ensures.spread;
      spread = on_ok_weaker c.spread.result (λ (spread : HasSpread v w). spread-from u v w on c.spread.ensures.on assignment spread) c.spread.ensures.spread;
      stayed =
          subst (λ (xs : List ℕ). OnOk c.spread.result (HaveStayed u.lines w.lines xs w.assignment)) assignment
          (subst (λ (ls : List LineView). OnOk c.spread.result (HaveStayed ls w.lines v.assignment w.assignment)) lines c.spread.ensures.stayed);
      others = inr (s, more, ok.started.0.0);
      kept = on_err_weaker c.spread.result (λ kept. kept ∙ assignment) c.spread.ensures.kept;
      limit =
          IfErr-weaker c.spread.result (λ (why : Halt). IsUnspread why v.assignment v.live v.lines w.lines) (λ (why : Halt). why ≡ halt.Limit → HasMetLimit u w)
          (λ why unspread is. spread-met u v w on (λ none. came-some started.live c.args.silo (sym live ∙ none)) why is unspread) c.spread.ensures.unspread;
    }
