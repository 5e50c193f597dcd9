use Rattle.grain_table.proofs.Prelude.{IsListed, ◌≡◌, ◌∙◌, ap, sym, refl, Bool, true, false, true≢false, not, insert, is_ok, if◌then◌else◌, arith}
use Rattle.std.proofs.Math.Bool.{beq}
use Rattle.grain_table.specs.declared.table.Standing.{Standing}
use Rattle.grain_table.proofs.TableLemmas.{has-room, last-before, put-in, stays, taken-out}
use Rattle.grain_table.proofs.table.mark.Goals as goal

-- of two flags the one is told by the other
equals : (was is : Bool) → beq was is ≡ true → was ≡ is
equals true true same = refl
equals true false same = absurd (true≢false (sym same))
equals false true same = absurd (true≢false (sym same))
equals false false same = refl

differs : (was is : Bool) → beq was is ≡ false → was ≡ not is
differs true true other = absurd (true≢false other)
differs true false other = refl
differs false true other = refl
differs false false other = absurd (true≢false other)

pub returns-then-before-now-clause-ready : goal.returns-then-before-now-clause-ready
returns-then-before-now-clause-ready c =
    stays c.args.entries.now c.args.ready.now.items c.args.number c.requires.number c.requires.ready c.args.before.is_ready c.requires.before
    (equals c.args.before.is_ready c.args.now.is_ready c.if-before-now.true ∙ ap (λ (s : Standing). s.is_ready) c.requires.now)

pub overflow_sub-past : goal.overflow_sub-past
overflow_sub-past c =
    let grains = c.args.entries.now in
    let numbers = c.args.ready.now.items in
    let d = c.index-entries-number.result in
    let past = c.first_past-past.result in
    let was = differs c.args.before.is_ready c.args.now.is_ready c.if-before-now.false ∙ ap not c.if-now.false in
    let first = rw c.as_slice.ensures.value at c.first_past-past.ensures in
    omega (arith, (last-before grains numbers c.args.number c.requires.number c.requires.ready d past first (c.requires.before.0 was)).0)

pub returns-else-now-clause-ready : goal.returns-else-now-clause-ready
returns-else-now-clause-ready c =
    let grains = c.args.entries.now in
    let numbers = c.args.ready.now.items in
    let d = c.index-entries-number.result in
    let past = c.first_past-past.result in
    let was = differs c.args.before.is_ready c.args.now.is_ready c.if-before-now.false ∙ ap not c.if-now.false in
    let first = rw c.as_slice.ensures.value at c.first_past-past.ensures in
    rw c.remove.ensures.items
    (taken-out grains numbers c.args.number c.requires.number c.requires.ready d past first (c.requires.before.0 was)
    (ap (λ (s : Standing). s.is_ready) (sym c.requires.now) ∙ c.if-now.false))

pub unwrap-requires : goal.unwrap-requires
unwrap-requires c =
    let was = differs c.args.before.is_ready c.args.now.is_ready c.if-before-now.false ∙ ap not c.if-now.true in
    let isnt : IsListed c.args.ready.now.items c.args.number → ⊥ = λ there. true≢false (sym (c.requires.before.1 there) ∙ was) in
    let room = has-room c.args.entries.now c.args.ready.now.items c.args.number c.requires.number c.requires.ready isnt in
    c.insert.ensures.succeeds (omega (arith, room, c.requires.room))

pub returns-then-now-clause-room : goal.returns-then-now-clause-room
returns-then-now-clause-room c =
    let was = differs c.args.before.is_ready c.args.now.is_ready c.if-before-now.false ∙ ap not c.if-now.true in
    let isnt : IsListed c.args.ready.now.items c.args.number → ⊥ = λ there. true≢false (sym (c.requires.before.1 there) ∙ was) in
    let room = has-room c.args.entries.now c.args.ready.now.items c.args.number c.requires.number c.requires.ready isnt in
    (c.insert.ensures.in_place (omega (arith, room, c.requires.room))).1.0

pub returns-then-now-clause-ready : goal.returns-then-now-clause-ready
returns-then-now-clause-ready c =
    let grains = c.args.entries.now in
    let numbers = c.args.ready.now.items in
    let d = c.index-entries-number.result in
    let past = c.first_past-past.result in
    let was = differs c.args.before.is_ready c.args.now.is_ready c.if-before-now.false ∙ ap not c.if-now.true in
    let isnt : IsListed numbers c.args.number → ⊥ = λ there. true≢false (sym (c.requires.before.1 there) ∙ was) in
    let first = rw c.as_slice.ensures.value at c.first_past-past.ensures in
    let put : c.insert.new.self.items ≡ insert numbers past c.args.number = c.insert.ensures.items ∙ ap (λ r. if is_ok r then insert numbers past c.args.number else numbers) c.unwrap.ensures in
    rw put
    (put-in grains numbers c.args.number c.requires.number c.requires.ready d past first c.requires.distinct isnt
    (ap (λ (s : Standing). s.is_ready) (sym c.requires.now) ∙ c.if-now.true))
