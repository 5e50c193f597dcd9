use Rattle.grain_table.proofs.Prelude.{commit, PlainActivation, ap, vec_capacity}
use Rattle.consumer_grain.specs.declared.told.Ended.{Ended}
use Rattle.grain_table.proofs.ChangeLemmas.{changed, changed-but, changed-ranked}
use Rattle.grain_table.proofs.table.GrainTable.commit.Goals as goal

pub settle-self-inside-requires : goal.settle-self-inside-requires
settle-self-inside-requires c =
    let t = c.self.inside in
    rw c.deref.ensures.value
    (changed-but t.entries.items c.args.self.now c.args.number c.index_mut.result.now c.index_mut.ensures.value c.self.view_is c.requires t.order.items t.ready.items (vec_capacity t.ready) t.running c.self.invariant
    c.commit-ended.new.self c.standing_of-before.result c.standing_of-before.ensures)

pub invariant_of-self : goal.invariant_of-self
invariant_of-self c =
    let t = c.self.inside in
    record {
      ranked = changed-ranked t.entries.items c.args.self.now c.args.number c.index_mut.result.now c.index_mut.ensures.value c.self.view_is c.requires t.order.items t.ready.items (vec_capacity t.ready) t.running c.self.invariant c.commit-ended.new.self;
      kept = rw c.deref.ensures.value at c.settle-self-inside.ensures;
    }

pub returns-clause-grains : goal.returns-clause-grains
returns-clause-grains c =
    changed c.self.inside.entries.items c.args.self.now c.args.number c.index_mut.result.now c.index_mut.ensures.value c.self.view_is c.requires
    (λ a. (commit a c.args.activation c.args.turn).0) c.commit-ended.new.self (ap (λ (r : PlainActivation × Ended). r.0) c.commit-ended.ensures)
