use Rattle.silo_operators.proofs.Prelude.{silent-refl, AreSplitOff, DirectoryPass, LineView, List, ap, ◌∙◌, ◌≡◌, IfOk, OnOk, subst, on_ok_weaker}
use Rattle.silo_operators.specs.Operators.{OperatorView}
use Rattle.silo_operators.proofs.Spreading.{only-refl, operator-on}
use Rattle.silo_operators.proofs.operator.Operator.make_loops.Goals as goal

pub returns-in_err-tools-clause-only : goal.returns-in_err-tools-clause-only
returns-in_err-tools-clause-only g c = only-refl c.args.self.now

pub invariant_of-self : goal.invariant_of-self
invariant_of-self g c = operator-on _ c.new.new.lines.items c.new.new.directory c.self.invariant c.new.ensures.go_on

pub returns-in_err-tools-clause-silent : goal.returns-in_err-tools-clause-silent
returns-in_err-tools-clause-silent g c = silent-refl c.args.self.now.directory

pub returns-clause-same : goal.returns-clause-same
returns-clause-same g c =
    let inside : OperatorView = record { lines = c.self.inside.lines.items; directory = c.self.inside.directory; live = c.self.inside.live.items; assignment = c.self.inside.assignment.items } in
    subst (λ (v : OperatorView). OnOk c.new.result (record inside { lines = c.new.new.lines.items; directory = c.new.new.directory } ≡ v)) c.self.view_is
    (on_ok_weaker c.new.result (λ (same : (c.new.new.lines.items ≡ c.self.inside.lines.items) × (c.new.new.directory ≡ c.self.inside.directory)).
    ap (λ (ls : List LineView). record inside { lines = ls; directory = c.new.new.directory }) same.0 ∙ ap (λ (d : DirectoryPass). record inside { directory = d }) same.1) c.new.ensures.same)

pub returns-clause-split : goal.returns-clause-split
returns-clause-split g c = subst (λ (v : OperatorView). IfOk c.new.result (AreSplitOff v.lines v.directory)) c.self.view_is c.new.ensures.split
