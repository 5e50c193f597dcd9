use Rattle.step_core.proofs.Prelude.{number_of, done-stale, IsFound, ◌≡◌, ◌∙◌, ap, sym, subst, ℕ, Option, true, arith, not, OnErr, GrainId, deliver-stale, deliver-unknown, takes_memory, registration_at, state_at}
use Rattle.step_core.proofs.RecordOps.{no-record}
use Rattle.pulling_agent.specs.declared.told.Sought.TheVariants as sought
use Rattle.step_core.specs.declared.parts.Parts.{Parts}
use Rattle.step_core.specs.PlainOf.{plain_of}
use Rattle.step_core.specs.Records.{record_of}
use Rattle.step_core.specs.Replied.{replied}
use Rattle.step_core.proofs.RetryOps.{nothing-told, refused-assembled, refused-told}
use Rattle.step_core.proofs.HandOps.{Answer, Stands, Tells, closed-performs, cursor-low, high-few, next-there, nothing-assembled, nothing-performs, search_in, tells, todo-is, todo-performs, untouched-there}
use Rattle.step_core.proofs.delivering.deliver.Goals as goal

pub returns-in_default-clause-performs : goal.returns-in_default-clause-performs
returns-in_default-clause-performs c =
    let p = plain_of c.args.parts.now in
    let none = no-record c.args.parts.now c.args.sub.now (sym c.requires.records.long) (sym c.in_default.ensures.number) in
    ap {B = Answer} (λ told. (p, told)) c.unknown.ensures.reply
    ∙ nothing-told p c.args.generation _ (deliver-stale p c.args.generation c.args.sub.now) (λ current. deliver-unknown p c.args.generation c.args.sub.now current none)

-- the number of the grain, as it was found
found : (parts : Parts) (number : ℕ) (own : GrainId) (grain : Option ℕ) → own ≡ (registration_at parts.subs number).grain → grain ≡ number_of parts.grains own → number_of parts.grains (record_of parts number).grain ≡ grain
found parts number own grain its at = ap (number_of parts.grains) (sym its) ∙ sym at

pub is_outstanding-outstanding-requires-clause-grain : goal.is_outstanding-outstanding-requires-clause-grain
is_outstanding-outstanding-requires-clause-grain c =
    found c.args.parts.now c.in-Some.number c.grain.result.now c.find-grain.result c.grain.ensures c.find-grain.ensures.number

pub deliver-requires-clause-cursor : goal.deliver-requires-clause-cursor
deliver-requires-clause-cursor c =
    let parts = c.args.parts.now in
    let stands : Stands parts c.in-Some.number = record { agrees = c.requires; within = c.in-Some.ensures.within } in
    cursor-low parts c.in-Some.number stands

pub deliver-requires-clause-high : goal.deliver-requires-clause-high
deliver-requires-clause-high c = omega (arith, high-few c.args.parts.now c.requires)

pub hand_over-requires : goal.hand_over-requires
hand_over-requires c =
    let parts = c.args.parts.now in
    let told : Tells parts c.args.generation c.args.sub.now c.deliver.new.self c.in-Some.number c.is_outstanding-outstanding.result (sought.Next c.in-Ok-Next.position) =
    tells c.args.generation c.args.sub.now c.deliver.new.self c.in-Some.number c.is_outstanding-outstanding.result c.requires c.in-Some.ensures.within c.in-Some.ensures.number c.in-Ok-Next.field-0-is c.in-Ok-Next.ensures.sought in
    record {
      agrees = rw told.sought.0 c.requires;
      next = next-there told (subst (IsFound parts.agent.cache (state_at parts.subs c.in-Some.number)) c.in-Ok-Next.field-0-is c.in-Ok-Next.ensures.found).1;
      grain = rw told.sought.0 (found parts c.in-Some.number c.grain.result.now c.find-grain.result c.grain.ensures c.find-grain.ensures.number);
    }

pub returns-in-Ok-Next : goal.returns-in-Ok-Next
returns-in-Ok-Next c =
    let told : Tells c.args.parts.now c.args.generation c.args.sub.now c.deliver.new.self c.in-Some.number c.is_outstanding-outstanding.result (sought.Next c.in-Ok-Next.position) =
    tells c.args.generation c.args.sub.now c.deliver.new.self c.in-Some.number c.is_outstanding-outstanding.result c.requires c.in-Some.ensures.within c.in-Some.ensures.number c.in-Ok-Next.field-0-is c.in-Ok-Next.ensures.sought in
    record {
      assembled = c.hand_over.ensures.assembled;
      performs = todo-performs told (plain_of c.hand_over.new.parts) (replied c.hand_over.result) c.hand_over.ensures.performs;
      told = c.hand_over.ensures.told;
      memory = subst (λ (done : Answer). OnErr c.hand_over.result (takes_memory done.1 ≡ true)) (todo-is told) c.hand_over.ensures.memory;
      first = untouched-there told c.hand_over.result c.hand_over.ensures.first;
    }

pub returns-in-Ok-Nothing : goal.returns-in-Ok-Nothing
returns-in-Ok-Nothing c =
    let parts = c.args.parts.now in
    let told : Tells parts c.args.generation c.args.sub.now c.deliver.new.self c.in-Some.number c.is_outstanding-outstanding.result sought.Nothing =
    tells c.args.generation c.args.sub.now c.deliver.new.self c.in-Some.number c.is_outstanding-outstanding.result c.requires c.in-Some.ensures.within c.in-Some.ensures.number c.in-Ok-Nothing.field-0-is c.in-Ok-Nothing.ensures.sought in
    record {
      assembled = nothing-assembled parts c.deliver.new.self c.in-Some.number c.is_outstanding-outstanding.result told.stands c.is_outstanding-outstanding.ensures told.sought;
      performs = nothing-performs told c.is_outstanding-outstanding.ensures;
      told = tt;
      memory = tt;
      first = tt;
    }

pub returns-in-Ok-Closed : goal.returns-in-Ok-Closed
returns-in-Ok-Closed c =
    let told : Tells c.args.parts.now c.args.generation c.args.sub.now c.deliver.new.self c.in-Some.number c.is_outstanding-outstanding.result sought.Closed =
    tells c.args.generation c.args.sub.now c.deliver.new.self c.in-Some.number c.is_outstanding-outstanding.result c.requires c.in-Some.ensures.within c.in-Some.ensures.number c.in-Ok-Closed.field-0-is c.in-Ok-Closed.ensures.sought in
    record { assembled = rw told.sought.0 c.requires.assembled; performs = closed-performs told; told = tt; memory = tt; first = tt }

-- the caller speaks for an agent that was replaced
pub returns-in-Err : goal.returns-in-Err
returns-in-Err c =
    let parts = c.args.parts.now in
    let refused = done-stale parts.agent c.args.generation parts.subs (search_in parts c.in-Some.number c.is_outstanding-outstanding.result) c.deliver.new.self c.in-Err.field-0 c.in-Err.ensures.sought in
    record {
      assembled = refused-assembled parts c.args.generation c.deliver.new.self c.in-Err.field-0 refused c.requires.assembled;
      performs = refused-told parts c.args.generation c.deliver.new.self c.in-Err.field-0 refused ∙ deliver-stale (plain_of parts) c.args.generation c.args.sub.now (ap not refused.other);
      told = tt;
      memory = tt;
      first = tt;
    }
