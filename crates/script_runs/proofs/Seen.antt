-- What calls add to what producers asked for and were told at a queue.
use Rattle.script_runs.proofs.Prelude.{told_of, owns-foreign, QueuePass, called-on, QueueCalls, HasGoneOn, ProducesNone, ◌≡◌, inl, ℕ, true, true≢false, if◌then◌else◌, List, [], ◌∷◌, ◌++◌, map, filter, Contains, Ok, refl, sym, ap, subst, ◌∙◌, append-nil, map-append, filter-append, AllByRecursion, is_producer, Reply, Op, numbers_of, entry, Entry}
use Rattle.std.proofs.lemmas.Bool.{false_from_ne_true}
use Rattle.stream_model.specs.History as told
use Rattle.silo_loops.specs.Passes.{OwnsNone}
use Rattle.script_runs.specs.Told as script
use Rattle.script_runs.specs.Telling.{ProducesAlone, told_at}

abbrev pub all_told : List (Entry Op Reply) → List told.Entry
all_told es = script.producers_entries (told_of es)

abbrev as_told : Entry Op Reply → told.Entry
as_told e = record { op = e.op; reply = e.reply }

abbrev kept : told.Entry → told.Entry
kept e = record { op = e.op; reply = script.told_of e.reply }

-- each producer's entry has one of these numbers
abbrev pub AreAlone : List ℕ → List (Entry Op Reply) → Type 0
AreAlone numbers es = AllByRecursion (λ (e : Entry Op Reply). is_producer e.op ≡ true → Contains numbers e.number) es

pub told-append : (xs ys : List (Entry Op Reply)) → all_told (xs ++ ys) ≡ all_told xs ++ all_told ys
told-append xs ys =
    ap (λ (es : List told.Entry). script.producers_entries es) (map-append as_told xs ys)
    ∙ ap (λ (es : List told.Entry). map kept es) (filter-append (λ (e : told.Entry). is_producer e.op) (told_of xs) (told_of ys))
    ∙ map-append kept (filter (λ (e : told.Entry). is_producer e.op) (told_of xs)) (filter (λ (e : told.Entry). is_producer e.op) (told_of ys))

-- one entry of a producer
told-one : (number : ℕ) (op : Op) (r : Reply) → is_producer op ≡ true → all_told (entry number op r ∷ []) ≡ record { op = op; reply = script.told_of r } ∷ []
told-one number op r produces =
    ap (λ b. map kept (if b then record { op = op; reply = r } ∷ [] else [])) produces

-- entries of others, where nobody else produces
told-none : (numbers : List ℕ) (es : List (Entry Op Reply)) → AreAlone numbers es → OwnsNone is_producer numbers es → all_told es ≡ []
told-none numbers [] alone none = refl
told-none numbers (e ∷ es) alone none =
    let other = false_from_ne_true (is_producer e.op) (λ produces. true≢false (sym produces ∙ none.0 (alone.0 produces))) in
    let rest : List told.Entry = filter (λ (e : told.Entry). is_producer e.op) (told_of es) in
    ap (λ b. map kept (if b then as_told e ∷ rest else rest)) other ∙ told-none numbers es alone.1 none.1

pub alone-front : (numbers : List ℕ) (xs ys : List (Entry Op Reply)) → AreAlone numbers (xs ++ ys) → AreAlone numbers xs × AreAlone numbers ys
alone-front numbers [] ys alone = (tt, alone)
alone-front numbers (x ∷ xs) ys alone = let rest = alone-front numbers xs ys alone.1 in ((alone.0, rest.0), rest.1)

-- the same with the numbers of the pass as it was
pub alone-as : (p q : QueuePass) → HasGoneOn p q → ProducesAlone q → AreAlone (numbers_of p) q.seen
alone-as p q on alone = subst (λ ks. AreAlone ks q.seen) (ap (λ (w : QueuePass). numbers_of w) on.only) alone

-- entries of others stand behind what was seen
told-behind : (numbers : List ℕ) (xs ys : List (Entry Op Reply)) → AreAlone numbers ys → OwnsNone is_producer numbers ys → all_told (xs ++ ys) ≡ all_told xs
told-behind numbers xs ys alone none =
    told-append xs ys ∙ ap (λ (es : List told.Entry). all_told xs ++ es) (told-none numbers ys alone none) ∙ append-nil (all_told xs)

-- where the pass has asked for nothing, nothing more is told
pub none-told : (p q : QueuePass) → ProducesNone p q → ProducesAlone q → told_at q ≡ told_at p
none-told p q none alone =
    let on = none.on in
    let here = subst (λ (es : List (Entry Op Reply)). AreAlone (numbers_of p) es) on.seen (alone-as p q on alone) in
    ap (λ (es : List (Entry Op Reply)). all_told es) on.seen
    ∙ told-behind (numbers_of p) p.seen on.more (alone-front (numbers_of p) p.seen on.more here).1 none.none

-- what is told before an answered call, and with it
pub called-told : (p q : QueuePass) (op : Op) (r : Reply) → is_producer op ≡ true → (calls : QueueCalls p op (Ok r) q) → ProducesAlone q
    → (all_told (p.seen ++ calls.calls.call.0) ≡ told_at p) × (told_at q ≡ told_at p ++ record { op = op; reply = script.told_of r } ∷ [])
called-told p q op r produces calls alone =
    let called = calls.calls.call in
    let last = entry p.number op r ∷ [] in
    let here = subst (λ (es : List (Entry Op Reply)). AreAlone (numbers_of p) es) called.1 (alone-as p q (called-on p q op (Ok r) (inl produces) calls) alone) in
    let front = (alone-front (numbers_of p) (p.seen ++ called.0) last here).0 in
    let before : all_told (p.seen ++ called.0) ≡ told_at p =
    told-behind (numbers_of p) p.seen called.0 (alone-front (numbers_of p) p.seen called.0 front).1 (owns-foreign is_producer (numbers_of p) called.0 called.2) in (
      before,
      ap (λ (es : List (Entry Op Reply)). all_told es) called.1
          ∙ told-append (p.seen ++ called.0) last
          ∙ (λ i. before i ++ told-one p.number op r produces i),
    )
