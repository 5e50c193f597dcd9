use Rattle.grain_table.proofs.Prelude.{forgotten, vec_capacity}
use Rattle.grain_table.proofs.ChangeLemmas.{changed, changed-but, changed-ranked}
use Rattle.grain_table.proofs.table.GrainTable.forget.Goals as goal

pub settle-self-inside-requires : goal.settle-self-inside-requires
settle-self-inside-requires c =
    let t = c.self.inside in
    rw c.deref.ensures.value
    (changed-but t.entries.items c.args.self.now c.args.number c.index_mut.result.now c.index_mut.ensures.value c.self.view_is c.requires t.order.items t.ready.items (vec_capacity t.ready) t.running c.self.invariant
    c.forget.new.self c.standing_of-before.result c.standing_of-before.ensures)

pub invariant_of-self : goal.invariant_of-self
invariant_of-self c =
    let t = c.self.inside in
    record {
      ranked = changed-ranked t.entries.items c.args.self.now c.args.number c.index_mut.result.now c.index_mut.ensures.value c.self.view_is c.requires t.order.items t.ready.items (vec_capacity t.ready) t.running c.self.invariant c.forget.new.self;
      kept = rw c.deref.ensures.value at c.settle-self-inside.ensures;
    }

pub returns : goal.returns
returns c =
    changed c.self.inside.entries.items c.args.self.now c.args.number c.index_mut.result.now c.index_mut.ensures.value c.self.view_is c.requires (forgotten c.args.sub) c.forget.new.self c.forget.ensures
