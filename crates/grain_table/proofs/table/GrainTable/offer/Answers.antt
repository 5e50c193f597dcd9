use Rattle.grain_table.proofs.Prelude.{offered, PlainActivation, ◌∙◌, ap, vec_capacity}
use Rattle.consumer_grain.specs.declared.told.Offered.{Offered}
use Rattle.grain_table.proofs.ChangeLemmas.{changed, changed-but, changed-ranked, was-at}
use Rattle.grain_table.proofs.table.GrainTable.offer.Goals as goal

pub settle-self-inside-requires : goal.settle-self-inside-requires
settle-self-inside-requires c =
    let t = c.self.inside in
    rw c.deref.ensures.value
    (changed-but t.entries.items c.args.self.now c.args.number c.index_mut.result.now c.index_mut.ensures.value c.self.view_is c.requires t.order.items t.ready.items (vec_capacity t.ready) t.running c.self.invariant
    c.offer.new.self c.standing_of-before.result c.standing_of-before.ensures)

pub invariant_of-self-2 : goal.invariant_of-self-2
invariant_of-self-2 c =
    let t = c.self.inside in
    record {
      ranked = changed-ranked t.entries.items c.args.self.now c.args.number c.index_mut.result.now c.index_mut.ensures.value c.self.view_is c.requires t.order.items t.ready.items (vec_capacity t.ready) t.running c.self.invariant c.offer.new.self;
      kept = rw c.deref.ensures.value at c.settle-self-inside.ensures;
    }

pub returns-clause-performs : goal.returns-clause-performs
returns-clause-performs c = (
  changed c.self.inside.entries.items c.args.self.now c.args.number c.index_mut.result.now c.index_mut.ensures.value c.self.view_is c.requires
      (λ a. (offered a c.args.delivery).0) c.offer.new.self (ap (λ (r : PlainActivation × Offered). r.0) c.in_ok-offered.ensures.performs),
  ap (λ (r : PlainActivation × Offered). r.1) c.in_ok-offered.ensures.performs
      ∙ ap (λ (a : PlainActivation). (offered a c.args.delivery).1) (was-at c.self.inside.entries.items c.args.self.now c.args.number c.index_mut.result.now c.index_mut.ensures.value c.self.view_is c.requires),
)
