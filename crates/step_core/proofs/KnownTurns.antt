-- What grains know where records are added, where turns begin and end, and where a grain leaves memory.
use Rattle.step_core.proofs.Prelude.{PlainActivation, front_of, holds, runs, RunningTurn, Delivery, SubState, Begun, activation_at, no_grain, Registration, ◌≡◌, ◌⊎◌, ◌∙◌, ap, sym, subst, refl, ℕ, zero, suc, ◌+◌, ◌-◌, ◌<◌, ◌≤◌, Bool, true, false, ◌&&◌, not, List, [], ◌∷◌, ◌++◌, length, drop, get_or, Option, Some, None, nat_lt, arith, inl, inr, cases_lt, cond_both, false≢true, ne_eqb, or_from, or_parts, get_or-append-add, get_or-map, get_or_append_left, length-append, AllByRecursion, list_any, if◌then◌else◌, is_some, place_of-key, same_grain-equal, same_grain-refl, All-at, turn_size, same_grain, place_of, GrainId, SubName, place_of-within, rewound_where, is_open_of, PlainTable, is_in, new_states, no_entry, no_state, rewound_open, state_at, AreRewound, ◌==◌, get_or_default}
use Rattle.consumer_grain.specs.Activations.{begin, begin_front, begin_turn}
use Rattle.consumer_grain.specs.declared.told.Begun.TheVariants as begun
use Rattle.grain_table.specs.Changes.{grain_at}
use Rattle.grain_table.specs.Grains as table
use Rattle.step_core.specs.declared.parts.Parts.{Parts}
use Rattle.step_core.specs.Known.{AreKnown, IsOf, IsUnknown, IsUntouched}
use Rattle.step_core.specs.Numbers.{IsBelow, TurnIsBelow}
use Rattle.step_core.specs.View.{sub_of}
use Rattle.step_core.proofs.DeactivateOps as deactivating
use Rattle.step_core.proofs.KnownOps.{known-states, unknown-to_own}

-- ---- records more

mail-below : (m n : ℕ) (ds : List Delivery) → m ≤ n → AllByRecursion (λ (d : Delivery). d.sub < m) ds → list_any (λ (d : Delivery). n == d.sub) ds ≡ false
mail-below m n [] le below = refl
mail-below m n (d ∷ ds) le below =
    or_from (n == d.sub) (list_any (λ (e : Delivery). n == e.sub) ds) (ne_eqb n d.sub (λ same. absurd (omega (arith, same, below.0, le)))) (mail-below m n ds le below.1)

runs-below : (m n : ℕ) (running : Option RunningTurn) → m ≤ n → TurnIsBelow m running → runs n running ≡ false
runs-below m n None le below = refl
runs-below m n (Some run) le below = ne_eqb n run.sub (λ same. absurd (omega (arith, same, below, le)))

holds-below : (m n : ℕ) (a : PlainActivation) → m ≤ n → IsBelow m a → holds n a ≡ false
holds-below m n a le below =
    or_from (list_any (λ (d : Delivery). n == d.sub) a.mailbox) (runs n a.running) (mail-below m n a.mailbox le below.waiting) (runs-below m n a.running le below.running)

-- records that have handled nothing, at a position
pub known-grown : (names entries : List (SubName × Registration)) (states : List SubState) (position : ℕ) (grains : List (GrainId × PlainActivation)) → AreKnown names states grains → length states ≡ length names
    → AllByRecursion (λ (e : GrainId × PlainActivation). IsBelow (length names) e.1) grains
    → AreKnown (names ++ entries) (states ++ new_states position entries) grains
known-grown names entries states position grains known lengths below = record {
  within = λ k n within is. let old = known.within k n within is in omega (arith, old, long);
  theirs = λ k n within is. of_there k n (known.within k n within is) (known.theirs k n within is);
  untouched = λ n within is_open unknown. by n within is_open unknown (cases_lt n (length names));
}
  where
    long : length (names ++ entries) ≡ length names + length entries
    long = length-append names entries

    of_there : (k n : ℕ) → n < length names → IsOf names grains n k → IsOf (names ++ entries) grains n k
    of_there k n within is = subst (λ (e : SubName × Registration). same_grain e.1.grain (grain_at grains k) ≡ true) (sym (get_or_append_left names entries no_entry n within)) is

    of_back : (k n : ℕ) → n < length names → IsOf (names ++ entries) grains n k → IsOf names grains n k
    of_back k n within is = subst (λ (e : SubName × Registration). same_grain e.1.grain (grain_at grains k) ≡ true) (get_or_append_left names entries no_entry n within) is

    New : List SubState
    New = states ++ new_states position entries

    is_new : (n : ℕ) → length names ≤ n → n < length (names ++ entries) → ((get_or New n no_state).cursor ≡ (get_or New n no_state).resume) × ((get_or New n no_state).handled ≡ [])
    is_new n past within =
        let P : SubState → Type 0 = λ s. (s.cursor ≡ s.resume) × (s.handled ≡ []) in
        let is : get_or New n no_state ≡ get_or (new_states position entries) (n - length states) no_state =
        ap (λ m. get_or New m no_state) {x = n} {y = length states + (n - length states)} (omega (arith, past, lengths)) ∙ get_or-append-add states (new_states position entries) (n - length states) no_state in
        subst P (sym (is ∙ get_or-map (λ (e : SubName × Registration). new_one e) entries (n - length states) no_entry no_state (omega (arith, past, within, long, lengths)))) (refl, refl)
      where
        new_one : SubName × Registration → SubState
        new_one e = record { start = e.1.start; handled = []; note = 0; resume = position; cursor = position; live = true }

    by : (n : ℕ) → n < length (names ++ entries) → (get_or New n no_state).live ≡ true → IsUnknown (names ++ entries) grains n → ((n < length names) ⊎ (length names ≤ n)) → IsUntouched (names ++ entries) New grains n
    by n within is_open unknown (inl old) =
        let kept : get_or New n no_state ≡ get_or states n no_state = get_or_append_left states (new_states position entries) no_state n (omega (arith, old, lengths)) in
        let was = known.untouched n old (subst (λ s. s.live ≡ true) kept is_open) (λ k in_k of_k. unknown k in_k (of_there k n old of_k)) in
        record {
          at_resume = ap (λ s. s.cursor) kept ∙ was.at_resume ∙ sym (ap (λ s. s.resume) kept);
          unhandled = ap (λ s. s.handled) kept ∙ was.unhandled;
          unheld = λ k in_k of_k. was.unheld k in_k (of_back k n old of_k);
        }
    by n within is_open unknown (inr past) =
        let is = is_new n past within in
        record { at_resume = is.0; unhandled = is.1; unheld = λ k in_k of_k. holds-below (length names) n (activation_at grains k) past (All-at (λ (e : GrainId × PlainActivation). IsBelow (length names) e.1) grains k no_grain below in_k) }

-- ---- turns

any-dropped : (p : Delivery → Bool) (k : ℕ) (ds : List Delivery) → list_any p ds ≡ false → list_any p (drop k ds) ≡ false
any-dropped p zero ds none = none
any-dropped p (suc k) [] none = refl
any-dropped p (suc k) (d ∷ ds) none = any-dropped p k ds (or_parts (p d) (list_any p ds) none).1

-- a grain begins: it is busy, has nothing, drops its front delivery or begins a turn
pub begin-any : (P : PlainActivation × Begun → Type 0) (a : PlainActivation) (past turn max_events : ℕ) → P (a, begun.Busy) → P (a, begun.Empty)
    → ((d : Delivery) (ds : List Delivery) → a.mailbox ≡ d ∷ ds → P (record a { mailbox = ds }, begun.Dropped d))
    → ((d : Delivery) (ds : List Delivery) → a.mailbox ≡ d ∷ ds → P (begin_turn a d.sub (front_of (turn_size max_events) d.sub d.position a.mailbox) turn))
    → P (begin a past turn max_events)
begin-any P a past turn max_events busy empty drops begins =
    cond_both (is_some a.running) _ _ P (λ _. busy) (λ _. cond_both (not a.active) _ _ P (λ _. empty) (λ _. front a.mailbox refl))
  where
    front : (ds : List Delivery) → a.mailbox ≡ ds → P (begin_front a past turn (turn_size max_events) ds)
    front [] is = empty
    front (d ∷ ds) is = cond_both (nat_lt d.position past) _ _ P (λ _. drops d ds is) (λ _. begins d ds is)

-- it holds no more, and knows the same
pub begin-holds : (n : ℕ) (a : PlainActivation) (past : ℕ) (turn : ℕ) (max_events : ℕ) → holds n a ≡ false → holds n (begin a past turn max_events).0 ≡ false
begin-holds n a past turn max_events none =
    begin-any (λ out. holds n out.0 ≡ false) a past turn max_events none none
    (λ d ds is. or_from (list_any (λ (e : Delivery). n == e.sub) ds) (runs n a.running) (front d ds is).1 parts.1)
    (λ d ds is. or_from (list_any (λ (e : Delivery). n == e.sub) (drop (length (front_of (turn_size max_events) d.sub d.position a.mailbox)) a.mailbox)) (n == d.sub)
    (any-dropped (λ e. n == e.sub) (length (front_of (turn_size max_events) d.sub d.position a.mailbox)) a.mailbox parts.0) (front d ds is).0)
  where
    parts : (list_any (λ (e : Delivery). n == e.sub) a.mailbox ≡ false) × (runs n a.running ≡ false)
    parts = or_parts (list_any (λ (e : Delivery). n == e.sub) a.mailbox) (runs n a.running) none

    front : (d : Delivery) (ds : List Delivery) → a.mailbox ≡ d ∷ ds → ((n == d.sub) ≡ false) × (list_any (λ (e : Delivery). n == e.sub) ds ≡ false)
    front d ds is = or_parts (n == d.sub) (list_any (λ (e : Delivery). n == e.sub) ds) (sym (ap (list_any (λ (e : Delivery). n == e.sub)) is) ∙ parts.0)

pub begin-subs : (a : PlainActivation) (past : ℕ) (turn : ℕ) (max_events : ℕ) → (begin a past turn max_events).0.subs ≡ a.subs
begin-subs a past turn max_events = begin-any (λ out. out.0.subs ≡ a.subs) a past turn max_events refl refl (λ d ds is. refl) (λ d ds is. refl)

-- a turn that ends isn't held any more
pub ended-holds : (n : ℕ) (a : PlainActivation) → holds n a ≡ false → holds n (record a { running = None }) ≡ false
ended-holds n a none = or_from (list_any (λ (e : Delivery). n == e.sub) a.mailbox) false (or_parts (list_any (λ (e : Delivery). n == e.sub) a.mailbox) (runs n a.running) none).0 refl

-- ---- a grain leaves memory

rewound-parts : (b : Bool) (s : SubState) → (if b then rewound_open s else s).live ≡ s.live
rewound-parts true s = refl
rewound-parts false s = refl

rewound-handled : (b : Bool) (s : SubState) → (if b then rewound_open s else s).handled ≡ s.handled
rewound-handled true s = refl
rewound-handled false s = refl

rewound-at : (b : Bool) (s : SubState) → s.cursor ≡ s.resume → (if b then rewound_open s else s).cursor ≡ (if b then rewound_open s else s).resume
rewound-at true s at = by s.live
  where
    by : (is_open : Bool) → (if is_open then s.resume else s.cursor) ≡ s.resume
    by true = refl
    by false = at
rewound-at false s at = at

pub known-deactivated : (numbers : List ℕ) (old new : PlainTable) (grains : List (GrainId × PlainActivation)) → length old.states ≡ length old.registry.names → AreKnown old.registry.names old.states grains → AreRewound numbers old new
    → AreKnown old.registry.names new.states grains
known-deactivated numbers old new grains lengths known rewound =
    known-states old.registry.names old.states new.states grains known (λ n within is_open.
    let is : state_at new n ≡ (if is_in numbers n then rewound_open (state_at old n) else state_at old n) = rewound.each n (omega (arith, within, lengths)) in (
      sym (rewound-parts (is_in numbers n) (state_at old n)) ∙ sym (ap (λ s. s.live) is) ∙ is_open,
      λ at none unheld. (
        ap (λ s. s.cursor) is ∙ rewound-at (is_in numbers n) (state_at old n) at ∙ sym (ap (λ s. s.resume) is),
        ap (λ s. s.handled) is ∙ rewound-handled (is_in numbers n) (state_at old n) ∙ none,
      ),
    ))

-- the numbers that a grain knows are all whose cursors have to go back
pub rewound-is : (parts : Parts) (g : GrainId) (j : ℕ) (new : PlainTable) → length parts.subs.states ≡ length parts.subs.registry.names → AreKnown parts.subs.registry.names parts.subs.states parts.grains → table.AreDistinct parts.grains
    → place_of same_grain g parts.grains ≡ Some j → AreRewound (activation_at parts.grains j).subs parts.subs new → deactivating.AreRewound g parts new.states
rewound-is parts g j new lengths known distinct found rewound i d e within =
    subst P (get_or_default names i no_entry d within) (
    subst (λ s. Q no_entry s e) (get_or_default new.states i no_state e (omega (arith, within, lengths, rewound.long)))
    (subst (λ s. Same (get_or names i no_entry) (state_at new i) s) (get_or_default states i no_state e (omega (arith, within, lengths))) (is (is_in numbers i) refl)))
  where
    names : List (SubName × Registration)
    names = parts.subs.registry.names

    states : List SubState
    states = parts.subs.states

    numbers : List ℕ
    numbers = (activation_at parts.grains j).subs

    Same : SubName × Registration → SubState → SubState → Type 0
    Same entry now was = (sub_of entry now).1 ≡ rewound_where (is_open_of g (sub_of entry was).1) (sub_of entry was).1

    Q : SubName × Registration → SubState → SubState → Type 0
    Q entry now e' = Same (get_or names i entry) now (get_or states i e')

    P : SubName × Registration → Type 0
    P entry = Same entry (get_or new.states i e) (get_or states i e)

    inside : j < length parts.grains
    inside = place_of-within same_grain g j parts.grains found

    own : g ≡ grain_at parts.grains j
    own = same_grain-equal g (grain_at parts.grains j) (place_of-key same_grain g parts.grains no_grain j found)

    old : SubState
    old = state_at parts.subs i

    entry : SubName × Registration
    entry = get_or names i no_entry

    now : (b : Bool) → is_in numbers i ≡ b → state_at new i ≡ (if b then rewound_open old else old)
    now b in_them = rewound.each i (omega (arith, within, lengths)) ∙ ap (λ c. if c then rewound_open old else old) in_them

    back : (its is_open : Bool) → its ≡ true → (sub_of entry (record old { live = is_open; cursor = if is_open then old.resume else old.cursor })).1 ≡ rewound_where (its && is_open) (sub_of entry (record old { live = is_open })).1
    back true true is = refl
    back true false is = refl
    back false is_open is = absurd (false≢true is)

    stays : (its is_open : Bool) → (its ≡ true → is_open ≡ true → old.cursor ≡ old.resume) → (sub_of entry (record old { live = is_open })).1 ≡ rewound_where (its && is_open) (sub_of entry (record old { live = is_open })).1
    stays true true at = ap (λ (cursor : ℕ). (sub_of entry (record old { live = true; cursor = cursor })).1) (at refl refl)
    stays true false at = refl
    stays false is_open at = refl

    unknown : same_grain g entry.1.grain ≡ true → is_in numbers i ≡ false → IsUnknown names parts.grains i
    unknown its none =
        unknown-to_own names parts.grains i j distinct (subst (λ (h : GrainId). place_of same_grain h parts.grains ≡ Some j) (same_grain-equal g entry.1.grain its) found) none

    is : (b : Bool) → is_in numbers i ≡ b → Same entry (state_at new i) old
    is true in_them =
        let its : same_grain g entry.1.grain ≡ true =
        subst (λ (h : GrainId). same_grain h entry.1.grain ≡ true) (same_grain-equal entry.1.grain (grain_at parts.grains j) (known.theirs j i inside in_them) ∙ sym own) (same_grain-refl entry.1.grain) in
        subst (λ s. Same entry s old) (sym (now true in_them)) (back (same_grain g entry.1.grain) old.live its)
    is false none =
        subst (λ s. Same entry s old) (sym (now false none))
        (stays (same_grain g entry.1.grain) old.live (λ its is_open. (known.untouched i within is_open (unknown its none)).at_resume))
