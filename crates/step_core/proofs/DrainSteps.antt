-- A phase of a drain, put together from the operations and phases that it is made of.
use Rattle.step_core.proofs.Prelude.{◌≡◌, ◌∙◌, ap, sym, refl, subst, Bool, true, false, List, [], ◌∷◌, ◌++◌, Option, Some, None, Ok, append_assoc, IsPrefixOf, leads-append, AtTooMany, AtSpent, Astray, Progress, and_then, ask, done, go_on, joined, stopped, Entry, may_allocate, Reply, Leads, Op, PlainPartition, Result, Err}
use Rattle.stream_model.specs.Draining as draining
use Rattle.stream_model.specs.Step.{step}
use Rattle.step_core.specs.declared.draining.Stop.{Stop}
use Rattle.step_core.specs.declared.draining.Stop.TheVariants as stop
use Rattle.step_core.specs.DrainPhases.{Asks, Ends, halted}

-- a front goes on with what comes after the whole
front-longer : (entries whole more : List Entry) → IsPrefixOf entries whole → IsPrefixOf entries (whole ++ more)
front-longer entries whole more front = (front.0 ++ more, sym (append_assoc entries front.0 more) ∙ ap (λ all. all ++ more) front.1)

front-behind : (first entries whole : List Entry) → IsPrefixOf entries whole → IsPrefixOf (first ++ entries) (first ++ whole)
front-behind first entries whole front = (front.0, append_assoc first entries front.0 ∙ ap (λ all. first ++ all) front.1)

-- what comes after entries that lead to mid
pub ends-behind : (old mid new : PlainPartition) (first : List Entry) (end : Option (Option draining.Stop)) (m : Progress) → Leads old first mid → Ends mid new end m → Ends old new end (joined first m)
ends-behind old mid new first (Some why) m leads ends = (ends.0, ends.1, leads-append old mid new first m.entries leads ends.2)
ends-behind old mid new first None m leads ends =
    record {
      done = first ++ ends.done;
      failed = ends.failed;
      front = subst (λ entries. IsPrefixOf entries (first ++ m.entries)) (sym (append_assoc first ends.done (ends.failed ∷ [])))
          (front-behind first (ends.done ++ ends.failed ∷ []) m.entries ends.front);
      leads = leads-append old mid new first ends.done leads ends.leads;
      allocates = ends.allocates;
    }

-- with all of the first done the next follows
go_on-next : (entries : List Entry) (p q : PlainPartition) (end : Option draining.Stop) (next : PlainPartition → Progress) → q ≡ p → None ≡ end → joined entries (next q) ≡ go_on entries p end next
go_on-next entries p q None next here all = ap (λ p. joined entries (next p)) here
go_on-next entries p q (Some why) next here all = absurd (cc)

-- one phase and then another
pub ends-then : (old mid new : PlainPartition) (end : Option (Option draining.Stop)) (m : Progress) (next : PlainPartition → Progress) → Ends old mid (Some None) m → Ends mid new end (next mid) → Ends old new end (and_then m next)
ends-then old mid new end m next first second =
    subst (Ends old new end) (go_on-next m.entries m.now mid m.stop next first.0 first.1) (ends-behind old mid new m.entries end (next mid) first.2 second)

-- where the first stopped, that was all
go_on-stopped : (entries : List Entry) (p : PlainPartition) (why : draining.Stop) (end : Option draining.Stop) (next : PlainPartition → Progress) → Some why ≡ end → record { entries = entries; now = p; stop = end } ≡ go_on entries p end next
go_on-stopped entries p why None next stops = absurd (cc)
go_on-stopped entries p why (Some other) next stops = refl

ends-stopped : (old new : PlainPartition) (why : draining.Stop) (m : Progress) (next : PlainPartition → Progress) → Ends old new (Some (Some why)) m → Ends old new (Some (Some why)) (and_then m next)
ends-stopped old new why m next first = subst (Ends old new (Some (Some why))) (go_on-stopped m.entries m.now why m.stop next first.1) first

-- the first operations of the first are the first of both
front-go_on : (front entries : List Entry) (p : PlainPartition) (end : Option draining.Stop) (next : PlainPartition → Progress) → IsPrefixOf front entries → IsPrefixOf front (go_on entries p end next).entries
front-go_on front entries p None next is = front-longer front entries (next p).entries is
front-go_on front entries p (Some why) next is = is

ends-wanting : (old new : PlainPartition) (m : Progress) (next : PlainPartition → Progress) → Ends old new None m → Ends old new None (and_then m next)
ends-wanting old new m next first =
    record {
      done = first.done;
      failed = first.failed;
      front = front-go_on (first.done ++ first.failed ∷ []) m.entries m.now m.stop next first.front;
      leads = first.leads;
      allocates = first.allocates;
    }

-- a phase that stopped is the last
pub ends-halted : (old new : PlainPartition) (why : Stop) (m : Progress) (next : PlainPartition → Progress) → Ends old new (halted why) m → Ends old new (halted why) (and_then m next)
ends-halted old new stop.TooMany m next first = ends-stopped old new AtTooMany m next first
ends-halted old new stop.Spent m next first = ends-stopped old new AtSpent m next first
ends-halted old new stop.Astray m next first = ends-stopped old new Astray m next first
ends-halted old new (stop.Memory wanting) m next first = ends-wanting old new m next first

-- the first operation failed to allocate
pub ends-unchanged : (old new : PlainPartition) (op : Op) (next : PlainPartition → Reply → Progress) → new ≡ old → may_allocate old op ≡ true → Ends old new None (ask old op next)
ends-unchanged old new op next unchanged allocates =
    record {
      done = [];
      failed = record { op = op; reply = (step old op).1 };
      front = ((next (step old op).0 (step old op).1).entries, refl);
      leads = unchanged;
      allocates = subst (λ p. may_allocate p op ≡ true) (sym unchanged) allocates;
    }

-- nothing more is done
pub ends-done : (p : PlainPartition) (m : Progress) (end : Option draining.Stop) → record { entries = []; now = p; stop = end } ≡ m → Ends p p (Some end) m
ends-done p m end same = subst (Ends p p (Some end)) same (refl, refl, refl)

-- an operation and what follows its reply
pub ends-ask : (old mid new : PlainPartition) (end : Option (Option draining.Stop)) (op : Op) (answer : Reply) (next : PlainPartition → Reply → Progress) → (mid, answer) ≡ step old op → Ends mid new end (next mid answer) → Ends old new end (ask old op next)
ends-ask old mid new end op answer next stepped rest =
    let Rest : PlainPartition × Reply → Type 0 = λ out. Ends out.0 new end (next out.0 out.1) in
    let after : Ends (step old op).0 new end (next (step old op).0 (step old op).1) = subst Rest stepped rest in
    ends-behind old (step old op).0 new (record { op = op; reply = (step old op).1 } ∷ []) end (next (step old op).0 (step old op).1) (refl, refl) after

-- an operation after whose reply nothing more is done
pub ends-last : (old new : PlainPartition) (end : Option draining.Stop) (op : Op) (answer : Reply) (next : PlainPartition → Reply → Progress) → (new, answer) ≡ step old op → record { entries = []; now = new; stop = end } ≡ next new answer → Ends old new (Some end) (ask old op next)
ends-last old new end op answer next stepped last =
    ends-ask old new new (Some end) op answer next stepped (ends-done new (next new answer) end last)

-- what follows a reply, by what the reply says
abbrev pub by_told : Result Bool Stop → (PlainPartition → Progress) → PlainPartition → Progress
by_told (Ok true) more p = more p
by_told (Ok false) more p = done p
by_told (Err stop.TooMany) more p = stopped AtTooMany p
by_told (Err stop.Spent) more p = stopped AtSpent p
by_told (Err stop.Astray) more p = stopped Astray p
-- never so, since no reply says this
by_told (Err (stop.Memory wanting)) more p = stopped Astray p

abbrev pub IsTold : (Reply → Result Bool Stop) → (PlainPartition → Progress) → (PlainPartition → Reply → Progress) → Type 0
IsTold told more next = (p : PlainPartition) (answer : Reply) → by_told (told answer) more p ≡ next p answer

-- the reply says that it goes on
pub asked-more : (old mid new : PlainPartition) (end : Option (Option draining.Stop)) (op : Op) (told : Reply → Result Bool Stop) (more : PlainPartition → Progress) (next : PlainPartition → Reply → Progress) (goes_on : Bool) → IsTold told more next → goes_on ≡ true → Asks old mid (Ok goes_on) op told → Ends mid new end (more mid)
    → Ends old new end (ask old op next)
asked-more old mid new end op told more next goes_on is_told is asked rest =
    ends-ask old mid new end op asked.0 next asked.1
    (subst (Ends mid new end) (ap (λ t. by_told t more mid) (sym (asked.2 ∙ ap {B = Result Bool Stop} Ok is)) ∙ is_told mid asked.0) rest)

-- or that all is done
pub asked-done : (old new : PlainPartition) (op : Op) (told : Reply → Result Bool Stop) (more : PlainPartition → Progress) (next : PlainPartition → Reply → Progress) (goes_on : Bool) → IsTold told more next → goes_on ≡ false → Asks old new (Ok goes_on) op told → Ends old new (Some None) (ask old op next)
asked-done old new op told more next goes_on is_told is asked =
    ends-last old new None op asked.0 next asked.1 (ap (λ t. by_told t more new) (sym (asked.2 ∙ ap {B = Result Bool Stop} Ok is)) ∙ is_told new asked.0)

-- or that no more is done
pub asked-halted : (old new : PlainPartition) (why : Stop) (op : Op) (told : Reply → Result Bool Stop) (more : PlainPartition → Progress) (next : PlainPartition → Reply → Progress) → IsTold told more next → Asks old new (Err why) op told → Ends old new (halted why) (ask old op next)
asked-halted old new stop.TooMany op told more next is_told asked =
    ends-last old new (Some AtTooMany) op asked.0 next asked.1 (ap (λ t. by_told t more new) (sym asked.2) ∙ is_told new asked.0)
asked-halted old new stop.Spent op told more next is_told asked =
    ends-last old new (Some AtSpent) op asked.0 next asked.1 (ap (λ t. by_told t more new) (sym asked.2) ∙ is_told new asked.0)
asked-halted old new stop.Astray op told more next is_told asked =
    ends-last old new (Some Astray) op asked.0 next asked.1 (ap (λ t. by_told t more new) (sym asked.2) ∙ is_told new asked.0)
asked-halted old new (stop.Memory wanting) op told more next is_told failed = ends-unchanged old new op next failed.0 failed.1
