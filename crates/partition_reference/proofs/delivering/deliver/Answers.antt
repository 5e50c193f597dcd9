use Rattle.partition_reference.proofs.Prelude.{◌≡◌, true, sym, subst, ◌∙◌, ap, not, eq-eqb, ne_eqb, OnErr, same_sub, Performs, place_of-none, deliver-stale, deliver-unknown, Reply, takes_memory, PlainPartition}
use Rattle.partition_reference.proofs.Handing.{deliver-closed, deliver-nothing, deliver-found}
use Rattle.partition_reference.proofs.delivering.deliver.Goals as goal

pub returns-then-generation-p-clause-performs : goal.returns-then-generation-p-clause-performs
returns-then-generation-p-clause-performs c = deliver-stale c.args.p.now c.args.generation c.args.sub (ap not (ne_eqb c.args.generation c.args.p.now.generation c.if-generation-p.true))

pub returns-in_default-clause-performs : goal.returns-in_default-clause-performs
returns-in_default-clause-performs c =
    deliver-unknown c.args.p.now c.args.generation c.args.sub (ap not (eq-eqb c.args.generation c.args.p.now.generation c.if-generation-p.false))
    (place_of-none same_sub c.args.sub c.args.p.now.subs (sym c.place_of_sub.ensures ∙ c.in_default.is))

pub returns-then-not-found-clause-performs : goal.returns-then-not-found-clause-performs
returns-then-not-found-clause-performs c =
    deliver-closed c.args.p.now c.args.generation c.args.sub c.sub_in-found.result.now c.if-generation-p.false c.sub_in-found.ensures c.if-not-found.true

pub returns-in_default-next_position-clause-performs : goal.returns-in_default-next_position-clause-performs
returns-in_default-next_position-clause-performs c =
    deliver-nothing c.args.p.now c.args.generation c.args.sub c.sub_in-found.result.now c.catch_up.new.p c.if-generation-p.false c.sub_in-found.ensures c.if-not-found.false
    (sym c.next_position.ensures.exact ∙ c.in_default-next_position.is) (c.catch_up.ensures c.sub_in-found.result.now c.sub_in-found.ensures)

pub returns-clause-performs : goal.returns-clause-performs
returns-clause-performs c =
    let p = c.args.p.now in
    let found = c.sub_in-found.result.now in
    let same = deliver-found p c.args.generation c.args.sub found c.in-Some-next_position.position c.if-generation-p.false c.sub_in-found.ensures c.if-not-found.false (sym c.next_position.ensures.exact ∙ c.in-Some-next_position.is) in
    subst (Performs p c.deliver_position.new.p c.deliver_position.result) same (c.deliver_position.ensures.performs found c.sub_in-found.ensures)

pub returns-clause-memory : goal.returns-clause-memory
returns-clause-memory c =
    let p = c.args.p.now in
    let found = c.sub_in-found.result.now in
    let same = deliver-found p c.args.generation c.args.sub found c.in-Some-next_position.position c.if-generation-p.false c.sub_in-found.ensures c.if-not-found.false (sym c.next_position.ensures.exact ∙ c.in-Some-next_position.is) in
    subst (λ (stepped : PlainPartition × Reply). OnErr c.deliver_position.result (takes_memory stepped.1 ≡ true)) same (c.deliver_position.ensures.memory found c.sub_in-found.ensures)
