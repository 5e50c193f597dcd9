use Rattle.silo_loops.proofs.Prelude.{refl, sym, subst, ap, ◌∙◌}
use Rattle.silo_loops.specs.Workers.{WorkerView}
use Rattle.silo_loops.specs.Silos.{IsFreshWorker, IsSilent, IsSplitWorker, IsWorkerAt}
use Rattle.silo_loops.proofs.Going.{goes-refl, silent-made, silent-refl, split-at, split-marked, split-some}
use Rattle.silo_loops.proofs.crew.loops.make_worker.Goals as goal

pub returns-in_err-kit-clause-go_on : goal.returns-in_err-kit-clause-go_on
returns-in_err-kit-clause-go_on g c = goes-refl c.args.lines.now.items

pub returns-in_err-room-clause-go_on : goal.returns-in_err-room-clause-go_on
returns-in_err-room-clause-go_on g c = goes-refl c.args.lines.now.items

pub new-requires-in-Ok-after_bounds : goal.new-requires-in-Ok-after_bounds
new-requires-in-Ok-after_bounds g c κs within = split-some _ _ c.in_ok-own.ensures.new c.requires.some

pub join_lines-requires-after_bounds : goal.join_lines-requires-after_bounds
join_lines-requires-after_bounds g c κs within = split-at _ _ _ c.in_ok-own.ensures.new c.split_lines.ensures.go_on

pub returns-in-Ok-clause-fresh : goal.returns-in-Ok-clause-fresh
returns-in-Ok-clause-fresh g c =
    let split = c.in_ok-own.ensures.new in
    let directory = ap (λ w. w.turnstile) c.in-Ok.ensures.new.0 in
    subst (λ (w : WorkerView). IsFreshWorker c.args.tools.now.rounds c.args.silo w × IsWorkerAt c.split_lines.new.lines.items c.split.new.self w) (sym c.new-in-Ok.ensures)
    ((refl, split-marked _ _ split, refl, refl, refl), (split-at _ _ _ split c.split_lines.ensures.go_on, directory ∙ sym c.split.ensures.turnstile))

pub returns-in_err-kit-clause-directory : goal.returns-in_err-kit-clause-directory
returns-in_err-kit-clause-directory g c = silent-refl c.args.directory.now

pub returns-in_err-room-clause-directory : goal.returns-in_err-room-clause-directory
returns-in_err-room-clause-directory g c = silent-refl c.args.directory.now

pub returns-in_err-own-clause-directory : goal.returns-in_err-own-clause-directory
returns-in_err-own-clause-directory g c = silent-refl c.args.directory.now

pub returns-in-Ok-clause-directory : goal.returns-in-Ok-clause-directory
returns-in-Ok-clause-directory g c = subst (λ d. IsSilent c.args.directory.now d) (sym c.in-Ok.ensures.same) (silent-refl c.args.directory.now)

pub returns-in-Err-clause-directory : goal.returns-in-Err-clause-directory
returns-in-Err-clause-directory g c = silent-made c.args.directory.now c.split.new.self c.in-Err.ensures.made

pub returns-in-Ok-clause-split : goal.returns-in-Ok-clause-split
returns-in-Ok-clause-split g c = subst (λ (w : WorkerView). IsSplitWorker c.args.lines.now.items c.args.directory.now w) (sym c.new-in-Ok.ensures) (c.in_ok-own.ensures.new, c.in-Ok.ensures.new)
