use Rattle.grain_table.proofs.Prelude.{deactivated, vec_capacity}
use Rattle.grain_table.proofs.ChangeLemmas.{changed, changed-but, changed-ranked}
use Rattle.grain_table.proofs.table.GrainTable.deactivate.Goals as goal

pub settle-self-inside-requires : goal.settle-self-inside-requires
settle-self-inside-requires c =
    let t = c.self.inside in
    rw c.deref.ensures.value
    (changed-but t.entries.items c.args.self.now c.args.number c.index_mut.result.now c.index_mut.ensures.value c.self.view_is c.requires t.order.items t.ready.items (vec_capacity t.ready) t.running c.self.invariant
    c.deactivate-lost.new.self c.standing_of-before.result c.standing_of-before.ensures)

pub invariant_of-self : goal.invariant_of-self
invariant_of-self c =
    let t = c.self.inside in
    record {
      ranked = changed-ranked t.entries.items c.args.self.now c.args.number c.index_mut.result.now c.index_mut.ensures.value c.self.view_is c.requires t.order.items t.ready.items (vec_capacity t.ready) t.running c.self.invariant c.deactivate-lost.new.self;
      kept = rw c.deref.ensures.value at c.settle-self-inside.ensures;
    }

pub returns-clause-grains : goal.returns-clause-grains
returns-clause-grains c =
    changed c.self.inside.entries.items c.args.self.now c.args.number c.index_mut.result.now c.index_mut.ensures.value c.self.view_is c.requires deactivated c.deactivate-lost.new.self c.deactivate-lost.ensures.state
