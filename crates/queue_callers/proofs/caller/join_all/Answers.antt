use Rattle.queue_callers.proofs.Prelude.{QueuePass, ◌≡◌, List, [], arith, refl, rules, set, subst, sym, common_steps}
use Rattle.queue_callers.specs.Calls.{JoinsAll}
use Rattle.queue_callers.proofs.Splitting.{join-more, join-next}
use Rattle.queue_callers.proofs.caller.join_all.Goals as goal

pub loop-other-init : goal.loop-other-init
loop-other-init g c = record { alike = c.requires; later = λ rs all. all }

pub index_mut-queue-requires : goal.index_mut-queue-requires
index_mut-queue-requires g c =
    let next = join-next c.loop-other.queues.items c.loop-other.others.items c.pop.new.self.items c.len.result c.in-Some.other c.in-Some.other c.in-Some.ensures.items (first_of (omega (arith, c.len.ensures), search rules, grind (arith, common_steps))) c.loop-other.invariant.alike in
    let less = next.0 in first_of (omega (arith, less), search (rules, less), grind (arith, common_steps, less))

pub join-requires-after_bounds : goal.join-requires-after_bounds
join-requires-after_bounds g c κs within =
    let next = join-next c.loop-other.queues.items c.loop-other.others.items c.pop.new.self.items c.len.result c.index_mut-queue.result.now c.in-Some.other c.in-Some.ensures.items (first_of (omega (arith, c.len.ensures), search rules, grind (arith, common_steps))) c.loop-other.invariant.alike in
    next.1 c.index_mut-queue.ensures.value

pub loop-other-preserved : goal.loop-other-preserved
loop-other-preserved g c =
    let more = join-more c.loop-other.queues.items c.loop-other.others.items c.pop.new.self.items (set c.loop-other.queues.items c.len.result c.join.new.self) c.len.result c.index_mut-queue.result.now c.in-Some.other c.join.new.self c.in-Some.ensures.items (first_of (omega (arith, c.len.ensures), search rules, grind (arith, common_steps)))
    c.loop-other.invariant.alike c.index_mut-queue.ensures.value (record { whole = c.join.ensures.joined; agree = c.join.ensures.agree }) refl in
    record { alike = more.0; later = λ rs all. c.loop-other.invariant.later rs (more.1 rs all) }

pub returns : goal.returns
returns g c =
    let none : c.loop-other.others.items ≡ [] = first_of (search rules, grind (arith, common_steps)) in
    c.loop-other.invariant.later c.loop-other.queues.items (subst (λ (es : List QueuePass). JoinsAll c.loop-other.queues.items es c.loop-other.queues.items) (sym none) refl)
