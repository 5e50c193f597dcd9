use Rattle.queue_callers.proofs.Prelude.{NeverProduces, QueuePass, places, ◌∙◌, List, ap, arith, rules, subst, sym, common_steps, YieldsList-from_vec, YieldsList-end, map-id, AllByRecursion, LineView, IsOtherIn, IsPartOf, ◌≡◌, ℕ, [], ◌∷◌, ◌++◌, length, Contains, refl, AllZip, Reply, Op, numbers_of, Foreign, Entry}
use Rattle.queue_callers.specs.Calls.{turnstiles, Joins, JoinsAll}
use Rattle.queue_callers.specs.Gathering.{AreAt, JoinsEach, passes_of, Gathers, IsFirstOf, gathered}
use Rattle.turnstile.proofs.Histories.{claims_extend, claims_same}
use Rattle.turnstile.specs.History.{Claims}
use Rattle.silo_loops.proofs.Going.{on-joined}
use Rattle.silo_loops.proofs.Taking.{taken-joined}
use Rattle.queue_callers.proofs.Splitting.{all-whole, line-turnstiles, turnstiles-joined}
use Rattle.queue_callers.proofs.Looking.{turnstiles-length}
use Rattle.silo_operators.proofs.Rows.{zip-refl, zip-trans}
use Rattle.queue_callers.proofs.gathering.gather.Goals as goal

-- who has none of more numbers has none of fewer
foreign-within : (fewer numbers : List ℕ) (es : List (Entry Op Reply)) → ((k : ℕ) → Contains fewer k → Contains numbers k) → Foreign numbers es → Foreign fewer es
foreign-within fewer numbers [] within f = tt
foreign-within fewer numbers (e ∷ es) within f = ((λ here. f.0 (within e.number here)), foreign-within fewer numbers es within f.1)

part-refl : (p : QueuePass) → IsPartOf p p
part-refl p = record { numbers = λ k here. here; claims = claims_same (numbers_of p) p.seen p.seen refl }

part-trans : (p q r : QueuePass) → IsPartOf p q → IsPartOf q r → IsPartOf p r
part-trans p q r a b =
    record {
      numbers = λ k here. b.numbers k (a.numbers k here);
      claims =
          subst (λ (es : List (Entry Op Reply)). Claims (numbers_of p) p.seen es) (sym b.claims.is)
          (claims_extend (numbers_of p) p.seen q.seen b.claims.rest a.claims (foreign-within (numbers_of p) (numbers_of q) b.claims.rest a.numbers b.claims.foreign));
    }

first-refl : (p : QueuePass) → IsFirstOf p p
first-refl p = record { part = part-refl p; number = refl }

first-trans : (p q r : QueuePass) → IsFirstOf p q → IsFirstOf q r → IsFirstOf p r
first-trans p q r a b = record { part = part-trans p q r a.part b.part; number = b.number ∙ a.number }

other-trans : (p q r : QueuePass) → IsOtherIn p q → IsFirstOf q r → IsOtherIn p r
other-trans p q r a b = record { part = part-trans p q r a.part b.part; other = λ here. a.other (subst (λ k. Contains (numbers_of p) k) b.number here) }

joins-first : (p q r : QueuePass) → Joins p q r → IsFirstOf p r
joins-first p q r j = let on = on-joined p q r j.whole j.agree in record { part = record { numbers = on.numbers; claims = j.agree.0 }; number = on.number }

all-first : (ps qs rs : List QueuePass) → JoinsAll ps qs rs → AllZip IsFirstOf ps rs
all-first ps [] rs same = subst (λ (es : List QueuePass). AllZip IsFirstOf ps es) (sym same) (zip-refl IsFirstOf first-refl ps)
all-first (p ∷ ps) (q ∷ qs) (r ∷ rs) j = (joins-first p q r j.0, all-first ps qs rs j.1)
all-first _ (q ∷ qs) _ j = absurd j

all-others : (ps qs rs : List QueuePass) → length qs ≡ length ps → JoinsAll ps qs rs → AllZip IsOtherIn qs rs
all-others [] [] rs long same = subst (λ (es : List QueuePass). AllZip IsOtherIn [] es) (sym same) tt
all-others (p ∷ ps) [] rs long same = absurd (omega arith)
all-others (p ∷ ps) (q ∷ qs) (r ∷ rs) long j = (taken-joined p q r j.0.whole j.0.agree, all-others ps qs rs (omega arith) j.1)
all-others _ (q ∷ qs) _ long j = absurd j

all-places : (ps qs rs : List QueuePass) → JoinsAll ps qs rs → turnstiles rs ≡ turnstiles ps
all-places ps qs rs j = ap (λ (es : List QueuePass). turnstiles es) (all-whole ps qs rs j) ∙ turnstiles-joined ps qs

each-whole : (ps : List QueuePass) (cs : List (List QueuePass)) (rs : List QueuePass) → JoinsEach ps cs rs → rs ≡ gathered ps cs
each-whole ps [] rs same = same
each-whole ps (c ∷ cs) rs j =
    each-whole j.0 cs rs j.2 ∙ ap (λ (es : List QueuePass). gathered es cs) (all-whole ps c j.0 j.1)

each-taken : (ps : List QueuePass) (cs : List (List QueuePass)) (rs : List QueuePass) → AllByRecursion (AreAt (turnstiles ps)) cs → JoinsEach ps cs rs
    → AllZip IsFirstOf ps rs × AllByRecursion (λ (c : List QueuePass). AllZip IsOtherIn c rs) cs
each-taken ps [] rs at same = (subst (λ (es : List QueuePass). AllZip IsFirstOf ps es) (sym same) (zip-refl IsFirstOf first-refl ps), tt)
each-taken ps (c ∷ cs) rs at j =
    let stays : turnstiles j.0 ≡ turnstiles ps = all-places ps c j.0 j.1 in
    let later = each-taken j.0 cs rs (subst (λ ts. AllByRecursion (AreAt ts) cs) (sym stays) at.1) j.2 in (
      zip-trans IsFirstOf IsFirstOf IsFirstOf first-trans ps j.0 rs (all-first ps c j.0 j.1) later.0,
      (zip-trans IsOtherIn IsFirstOf IsOtherIn other-trans c j.0 rs (all-others ps c j.0 (turnstiles-length ps c at.0) j.1) later.0, later.1),
    )

-- one more caller is taken in
each-more : (ps : List QueuePass) (cs : List (List QueuePass)) (c now new : List QueuePass) → JoinsEach ps cs now → JoinsAll now c new → JoinsEach ps (cs ++ c ∷ []) new
each-more ps [] c now new same j = (new, subst (λ (es : List QueuePass). JoinsAll es c new) same j, refl)
each-more ps (y ∷ ys) c now new e j = (e.0, e.1, each-more e.0 ys c now new e.2 j)

-- so what the lines' passes made of callers at their turnstiles is gathered from them
lines-gather : (ls : List LineView) (cs : List (List QueuePass)) (rs : List QueuePass) → AllByRecursion (AreAt (places ls)) cs → AllByRecursion NeverProduces (passes_of ls) → JoinsEach (passes_of ls) cs rs → Gathers (passes_of ls) cs rs
lines-gather ls cs rs at never j =
    let taken = each-taken (passes_of ls) cs rs (subst (λ ts. AllByRecursion (AreAt ts) cs) (sym (line-turnstiles ls)) at) j in
    record { whole = each-whole (passes_of ls) cs rs j; first = taken.0; others = taken.1; never = never }

pub loop-caller-init : goal.loop-caller-init
loop-caller-init g c =
    let passes = c.in_ok-all.ensures.passes in
    record {
      joined = passes;
      at = ap (λ (ps : List QueuePass). turnstiles ps) passes ∙ line-turnstiles c.args.lines.items;
      rest = subst (λ (cs : List (List QueuePass)). AllByRecursion (AreAt (places c.args.lines.items)) cs) (sym c.into_iter-caller-iterator.ensures.into_iter_gives.0) c.requires;
    }

pub join-requires-after_bounds : goal.join-requires-after_bounds
join-requires-after_bounds g c κs within =
    let rest = subst (λ (cs : List (List QueuePass)). AllByRecursion (AreAt (places c.args.lines.items)) cs) c.in-Some.ensures.steps.0 c.loop-caller.invariant.rest in
    rest.0 ∙ sym c.loop-caller.invariant.at

pub loop-caller-preserved : goal.loop-caller-preserved
loop-caller-preserved g c =
    let rest = subst (λ (cs : List (List QueuePass)). AllByRecursion (AreAt (places c.args.lines.items)) cs) c.in-Some.ensures.steps.0 c.loop-caller.invariant.rest in
    record {
      joined = each-more (passes_of c.args.lines.items) c.loop-caller.yielded c.in-Some.caller c.loop-caller.all c.join.new.self c.loop-caller.invariant.joined c.join.ensures.agree;
      at = c.join.ensures.turnstiles ∙ c.loop-caller.invariant.at;
      rest = rest.1;
    }

pub returns : goal.returns
returns g c =
    let ending = YieldsList-end (YieldsList-from_vec {s = c.into_iter-caller-iterator.result} c.args.callers.items c.into_iter-caller-iterator.ensures.into_iter_gives.0 (first_of (search rules, grind (arith, common_steps)))) c.loop-caller.yielded c.loop-caller.caller-iterator c.loop-caller.yielded_by c.next.result c.next.new.self c.in-None.is c.next.ensures.steps in
    let whole = sym (map-id c.loop-caller.yielded) ∙ ending.0 in
    lines-gather c.args.lines.items c.args.callers.items c.loop-caller.all c.requires (subst (λ (ps : List QueuePass). AllByRecursion NeverProduces ps) c.in_ok-all.ensures.passes c.in_ok-all.ensures.never)
    (subst (λ (cs : List (List QueuePass)). JoinsEach (passes_of c.args.lines.items) cs c.loop-caller.all) whole c.loop-caller.invariant.joined)
