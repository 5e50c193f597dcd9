use Rattle.queue_callers.proofs.Prelude.{LineView, NeverProduces, QueuePass, ◌≡◌, ◌<◌, ◌∷◌, [], ◌++◌, ◌∙◌, List, ap, arith, length, rules, subst, sym, common_steps, YieldsList-from_vec, YieldsList-end, YieldsList-turn, length-map, map-append, map-id, AllByRecursion, All-push}
use Rattle.queue_callers.specs.Gathering.{passes_of}
use Rattle.queue_callers.proofs.caller.Caller.of_lines.Goals as goal

pub push_reserved-requires : goal.push_reserved-requires
push_reserved-requires g c =
    let turn = YieldsList-turn (YieldsList-from_vec {s = c.into_iter-line-iterator.result} c.args.lines.items c.into_iter-line-iterator.ensures.into_iter_gives.0 (first_of (search rules, grind (arith, common_steps)))) c.loop-line.yielded c.loop-line.line-iterator c.loop-line.yielded_by c.next.result c.next.new.self c.in-Some.line c.in-Some.is c.next.ensures.steps in
    let more : length c.loop-line.yielded < length c.args.lines.items = turn.0 in
    let long : length c.loop-line.queues.items ≡ length c.loop-line.yielded = ap (λ (es : List QueuePass). length es) c.loop-line.invariant.passes ∙ length-map c.loop-line.yielded (λ (l : LineView). l.pass) in
    first_of (omega (arith, more, long, c.loop-line.invariant.room), grind (arith, common_steps))

pub loop-line-preserved : goal.loop-line-preserved
loop-line-preserved g c =
    let push = c.push_reserved.ensures in
    record {
      passes =
          push.items ∙ (λ i. c.loop-line.invariant.passes i ++ c.line_caller.ensures.pass i ∷ [])
          ∙ sym (map-append (λ (l : LineView). l.pass) c.loop-line.yielded (c.in-Some.line ∷ []));
      never =
          subst (λ (es : List QueuePass). AllByRecursion NeverProduces es) (sym push.items)
          (All-push NeverProduces c.loop-line.queues.items c.line_caller.result c.loop-line.invariant.never (subst (λ (p : QueuePass). NeverProduces p) (sym c.line_caller.ensures.pass) c.line_caller.ensures.never));
      room = push.capacity ∙ c.loop-line.invariant.room;
    }

pub returns-clause-passes : goal.returns-clause-passes
returns-clause-passes g c =
    let ending = YieldsList-end (YieldsList-from_vec {s = c.into_iter-line-iterator.result} c.args.lines.items c.into_iter-line-iterator.ensures.into_iter_gives.0 (first_of (search rules, grind (arith, common_steps)))) c.loop-line.yielded c.loop-line.line-iterator c.loop-line.yielded_by c.next.result c.next.new.self c.in-None.is c.next.ensures.steps in
    let whole = sym (map-id c.loop-line.yielded) ∙ ending.0 in
    c.new-2.ensures ∙ c.loop-line.invariant.passes ∙ ap (λ (ls : List LineView). passes_of ls) whole

pub returns-clause-never : goal.returns-clause-never
returns-clause-never g c = subst (λ (ps : List QueuePass). AllByRecursion NeverProduces ps) (sym c.new-2.ensures) c.loop-line.invariant.never
