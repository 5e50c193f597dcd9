-- What each change leaves of what the grains know.
use Rattle.step_core.proofs.Prelude.{PlainActivation, holds, new_activation, runs, with_number, woken, Delivery, SubState, activation_at, no_grain, Registration, ◌≡◌, ◌≢◌, ◌⊎◌, ◌∙◌, ap, sym, subst, refl, ℕ, zero, suc, ◌<◌, Bool, true, false, ◌||◌, nat_lt, List, [], ◌∷◌, ◌++◌, length, map, get_or, set, Some, None, arith, inl, inr, cases_eq, eq-eqb, eqb-true, false≢true, ne_eqb, or_from, or_parts, get_or-map, get_or-set_other, get_or-set_same, get_or_append_left, length-append, list_any, if◌then◌else◌, first_at-None, place_of-key, same_grain-equal, same_grain-refl, length-change_at, set-change_at, same_grain, change_at, place_of, GrainId, SubName, place_of-within, is_in, no_entry, no_state, rewound_open, ◌==◌, or_right}
use Rattle.std.proofs.lemmas.List.Folds.{list_any-append}
use Rattle.grain_table.specs.Changes.{grain_at}
use Rattle.step_core.specs.Known.{AreKnown, IsOf, IsUnheld, IsUnknown, IsUntouched}
use Rattle.grain_table.specs.Grains as table

-- ---- a record that no grain knows of

-- its own grain doesn't
pub unknown-to_own : (names : List (SubName × Registration)) (grains : List (GrainId × PlainActivation)) (n j : ℕ) → table.AreDistinct grains → place_of same_grain (get_or names n no_entry).1.grain grains ≡ Some j → is_in (activation_at grains j).subs n ≡ false
    → IsUnknown names grains n
unknown-to_own names grains n j distinct found none k within of_k =
    let g = (get_or names n no_entry).1.grain in
    let same : grain_at grains k ≡ grain_at grains j = sym (same_grain-equal g (grain_at grains k) of_k) ∙ same_grain-equal g (grain_at grains j) (place_of-key same_grain g grains no_grain j found) in
    let at_j : k ≡ j = distinct k j no_grain within (place_of-within same_grain g j grains found) (subst (λ (h : GrainId). same_grain (grain_at grains k) h ≡ true) same (same_grain-refl (grain_at grains k))) in
    subst (λ m. is_in (activation_at grains m).subs n ≡ false) (sym at_j) none

-- its own grain was never active
pub unknown-nowhere : (names : List (SubName × Registration)) (grains : List (GrainId × PlainActivation)) (n : ℕ) → place_of same_grain (get_or names n no_entry).1.grain grains ≡ None → IsUnknown names grains n
unknown-nowhere names grains n none k within of_k =
    absurd (false≢true (sym (first_at-None (λ (entry : GrainId × PlainActivation). same_grain (get_or names n no_entry).1.grain entry.0) 0 grains no_grain none k within) ∙ of_k))

-- ---- one entry changed

changed-here : (f : PlainActivation → PlainActivation) (j : ℕ) (grains : List (GrainId × PlainActivation)) → j < length grains → get_or (change_at f j grains) j no_grain ≡ (grain_at grains j, f (activation_at grains j))
changed-here f j grains inside =
    ap (λ (gs : List (GrainId × PlainActivation)). get_or gs j no_grain) (sym (set-change_at f j grains no_grain inside)) ∙ get_or-set_same grains j (grain_at grains j, f (activation_at grains j)) no_grain inside

changed-other : (f : PlainActivation → PlainActivation) (j k : ℕ) (grains : List (GrainId × PlainActivation)) → j < length grains → k ≢ j → get_or (change_at f j grains) k no_grain ≡ get_or grains k no_grain
changed-other f j k grains inside other =
    ap (λ (gs : List (GrainId × PlainActivation)). get_or gs k no_grain) (sym (set-change_at f j grains no_grain inside)) ∙ get_or-set_other grains j k (grain_at grains j, f (activation_at grains j)) no_grain other

-- ---- states changed, grains as they were

-- each open state was open, and one that was at its resume with nothing handled is so
abbrev pub StaySo : List (SubName × Registration) → List (GrainId × PlainActivation) → List SubState → List SubState → Type 0
StaySo names grains old new =
    (n : ℕ) → n < length names → (get_or new n no_state).live ≡ true
    → ((get_or old n no_state).live ≡ true)
    × ((get_or old n no_state).cursor ≡ (get_or old n no_state).resume → (get_or old n no_state).handled ≡ [] → IsUnheld names grains n
    → ((get_or new n no_state).cursor ≡ (get_or new n no_state).resume) × ((get_or new n no_state).handled ≡ []))

pub known-states : (names : List (SubName × Registration)) (old new : List SubState) (grains : List (GrainId × PlainActivation)) → AreKnown names old grains → StaySo names grains old new → AreKnown names new grains
known-states names old new grains known stay = record {
  within = known.within;
  theirs = known.theirs;
  untouched = λ n within is_open unknown.
      let stays = stay n within is_open in
      let was = known.untouched n within stays.0 unknown in
      let is = stays.1 was.at_resume was.unhandled was.unheld in
      record { at_resume = is.0; unhandled = is.1; unheld = was.unheld };
}

-- one state changed
pub known-state : (names : List (SubName × Registration)) (states : List SubState) (grains : List (GrainId × PlainActivation)) (i : ℕ) (s : SubState) → AreKnown names states grains → i < length states
    → (s.live ≡ true → (get_or states i no_state).live ≡ true)
    → ((get_or states i no_state).cursor ≡ (get_or states i no_state).resume → (get_or states i no_state).handled ≡ [] → IsUnheld names grains i → (s.cursor ≡ s.resume) × (s.handled ≡ []))
    → AreKnown names (set states i s) grains
known-state names states grains i s known inside opened stays =
    known-states names states (set states i s) grains known (λ n within is_open. by n is_open (cases_eq n i))
  where
    Old : ℕ → SubState
    Old n = get_or states n no_state

    by : (n : ℕ) → (get_or (set states i s) n no_state).live ≡ true → ((n ≡ i) ⊎ (n ≢ i))
        → ((Old n).live ≡ true)
        × ((Old n).cursor ≡ (Old n).resume → (Old n).handled ≡ [] → IsUnheld names grains n
        → ((get_or (set states i s) n no_state).cursor ≡ (get_or (set states i s) n no_state).resume) × ((get_or (set states i s) n no_state).handled ≡ []))
    by n is_open (inl same) =
        let here : get_or (set states i s) n no_state ≡ s = ap (λ k. get_or (set states i s) k no_state) same ∙ get_or-set_same states i s no_state inside in
        let P : SubState → Type 0 = λ t. (t.cursor ≡ t.resume) × (t.handled ≡ []) in (
          subst (λ k. (Old k).live ≡ true) (sym same) (opened (subst (λ t. t.live ≡ true) here is_open)),
          λ at none unheld. subst P (sym here) (stays (subst (λ k. (Old k).cursor ≡ (Old k).resume) same at) (subst (λ k. (Old k).handled ≡ []) same none) (subst (IsUnheld names grains) same unheld)),
        )
    by n is_open (inr other) =
        let kept : get_or (set states i s) n no_state ≡ get_or states n no_state = get_or-set_other states i n s no_state other in
        let P : SubState → Type 0 = λ t. (t.cursor ≡ t.resume) × (t.handled ≡ []) in
        (subst (λ t. t.live ≡ true) kept is_open, λ at none unheld. subst P (sym kept) (at, none))

-- the open ones back at their resumes
pub known-rewound : (names : List (SubName × Registration)) (states : List SubState) (grains : List (GrainId × PlainActivation)) → length states ≡ length names → AreKnown names states grains → AreKnown names (map rewound_open states) grains
known-rewound names states grains lengths known =
    known-states names states (map rewound_open states) grains known (λ n within is_open.
    let is : get_or (map rewound_open states) n no_state ≡ rewound_open (get_or states n no_state) = get_or-map rewound_open states n no_state no_state (omega (arith, within, lengths)) in
    let was : (get_or states n no_state).live ≡ true = sym (ap (λ t. t.live) is) ∙ is_open in (
      was,
      λ at none unheld. (
        ap (λ t. t.cursor) is ∙ ap (λ b. if b then (get_or states n no_state).resume else (get_or states n no_state).cursor) was ∙ sym (ap (λ t. t.resume) is),
        ap (λ t. t.handled) is ∙ none,
      ),
    ))

-- ---- one grain changed

-- the new grains are the old ones with the activation with a number changed, which may be the next number
pub record Becomes (old new : List (GrainId × PlainActivation)) (j : ℕ) (f : PlainActivation → PlainActivation) : Type 0 where
  pub inside : j < length new
  pub here : activation_at new j ≡ f (activation_at old j)
  pub others : (k : ℕ) → ((k ≡ j) ⊎ (activation_at new k ≡ activation_at old k))
  pub forth : (k : ℕ) → k < length old → (k < length new) × (grain_at new k ≡ grain_at old k)

pub becomes-changed : (grains : List (GrainId × PlainActivation)) (j : ℕ) (f : PlainActivation → PlainActivation) → j < length grains → Becomes grains (change_at f j grains) j f
becomes-changed grains j f inside = record {
  inside = omega (arith, inside, length-change_at f j grains);
  here = ap (λ (e : GrainId × PlainActivation). e.1) (changed-here f j grains inside);
  others = λ k. other k (cases_eq k j);
  forth = λ k within. (omega (arith, within, length-change_at f j grains), grain k (cases_eq k j));
}
  where
    other : (k : ℕ) → ((k ≡ j) ⊎ (k ≢ j)) → ((k ≡ j) ⊎ (activation_at (change_at f j grains) k ≡ activation_at grains k))
    other k (inl same) = inl same
    other k (inr differs) = inr (ap (λ (e : GrainId × PlainActivation). e.1) (changed-other f j k grains inside differs))

    grain : (k : ℕ) → ((k ≡ j) ⊎ (k ≢ j)) → grain_at (change_at f j grains) k ≡ grain_at grains k
    grain k (inl same) =
        subst (λ m. grain_at (change_at f j grains) m ≡ grain_at grains m) (sym same) (ap (λ (e : GrainId × PlainActivation). e.0) (changed-here f j grains inside))
    grain k (inr differs) = ap (λ (e : GrainId × PlainActivation). e.0) (changed-other f j k grains inside differs)

pub becomes-added : (grains : List (GrainId × PlainActivation)) (g : GrainId) (f : PlainActivation → PlainActivation) → Becomes grains (grains ++ (g, f new_activation) ∷ []) (length grains) f
becomes-added grains g f = record {
  inside = omega (arith, length-append grains ((g, f new_activation) ∷ []));
  here = here grains;
  others = others grains;
  forth = λ k within. (
    omega (arith, within, length-append grains ((g, f new_activation) ∷ [])),
    ap (λ (e : GrainId × PlainActivation). e.0) (get_or_append_left grains ((g, f new_activation) ∷ []) no_grain k within),
  );
}
  where
    here : (grains : List (GrainId × PlainActivation)) → activation_at (grains ++ (g, f new_activation) ∷ []) (length grains) ≡ f (activation_at grains (length grains))
    here [] = refl
    here (e ∷ grains) = here grains

    others : (grains : List (GrainId × PlainActivation)) (k : ℕ) → ((k ≡ length grains) ⊎ (activation_at (grains ++ (g, f new_activation) ∷ []) k ≡ activation_at grains k))
    others [] zero = inl refl
    others [] (suc k) = inr refl
    others (e ∷ grains) zero = inr refl
    others (e ∷ grains) (suc k) = next (others grains k)
      where
        next : {A : Type 0} → ((k ≡ length grains) ⊎ A) → ((suc k ≡ suc (length grains)) ⊎ A)
        next (inl same) = inl (ap suc same)
        next (inr kept) = inr kept

-- what holds of the changed activation and of each that stays holds of each
each : {old new : List (GrainId × PlainActivation)} {j : ℕ} {f : PlainActivation → PlainActivation} → Becomes old new j f → (P : ℕ → PlainActivation → PlainActivation → Type 0)
    → P j (activation_at old j) (f (activation_at old j)) → ((k : ℕ) → P k (activation_at old k) (activation_at old k)) → (k : ℕ) → P k (activation_at old k) (activation_at new k)
each {old} {new} {j} {f} becomes P here kept k = by (becomes.others k)
  where
    by : ((k ≡ j) ⊎ (activation_at new k ≡ activation_at old k)) → P k (activation_at old k) (activation_at new k)
    by (inl same) = subst (λ m. P m (activation_at old m) (activation_at new m)) (sym same) (subst (P j (activation_at old j)) (sym becomes.here) here)
    by (inr same) = subst (P k (activation_at old k)) (sym same) (kept k)

-- there is nothing beyond the last
beyond : (grains : List (GrainId × PlainActivation)) (k : ℕ) → ((k < length grains) ⊎ (activation_at grains k ≡ new_activation))
beyond [] k = inr refl
beyond (g ∷ grains) zero = inl (omega arith)
beyond (g ∷ grains) (suc k) = next (beyond grains k)
  where
    next : ((k < length grains) ⊎ (activation_at grains k ≡ new_activation)) → ((suc k < suc (length grains)) ⊎ (activation_at grains k ≡ new_activation))
    next (inl within) = inl (omega (arith, within))
    next (inr none) = inr none

-- The grain knows one record more at most, one of its own, and forgets and gets no other than the one with the number i.
-- The states of the others stay.
pub known-becomes : {names : List (SubName × Registration)} {states : List SubState} (others : List SubState) {old new : List (GrainId × PlainActivation)} {j : ℕ} {f : PlainActivation → PlainActivation} (i : ℕ) → AreKnown names states old → Becomes old new j f
    → ((n : ℕ) → is_in (f (activation_at old j)).subs n ≡ true → ((is_in (activation_at old j).subs n ≡ true) ⊎ ((n < length names) × IsOf names new n j)))
    → ((n : ℕ) → n ≢ i → is_in (f (activation_at old j)).subs n ≡ false → is_in (activation_at old j).subs n ≡ false)
    → ((n : ℕ) → n ≢ i → holds n (activation_at old j) ≡ false → holds n (f (activation_at old j)) ≡ false)
    → ((n : ℕ) → n ≢ i → get_or others n no_state ≡ get_or states n no_state)
    → (i < length names → (get_or others i no_state).live ≡ true → IsUnknown names new i → IsUntouched names others new i)
    → AreKnown names others new
known-becomes {names} {states} others {old} {new} {j} {f} i known becomes learns forgets gets stays own = record {
  within = λ k n within is. (theirs k n (was k n is) (beyond old k)).0;
  theirs = λ k n within is. (theirs k n (was k n is) (beyond old k)).1;
  untouched = λ n within is_open unknown. untouched n within is_open unknown (cases_eq n i);
}
  where
    was : (k n : ℕ) → is_in (activation_at new k).subs n ≡ true → ((is_in (activation_at old k).subs n ≡ true) ⊎ ((n < length names) × IsOf names new n k))
    was = each becomes (λ k a b. (n : ℕ) → is_in b.subs n ≡ true → ((is_in a.subs n ≡ true) ⊎ ((n < length names) × IsOf names new n k))) learns (λ k n is. inl is)

    of_new : (k n : ℕ) → k < length old → IsOf names old n k → IsOf names new n k
    of_new k n within is = subst (λ (g : GrainId). same_grain (get_or names n no_entry).1.grain g ≡ true) (sym (becomes.forth k within).1) is

    theirs : (k n : ℕ) → ((is_in (activation_at old k).subs n ≡ true) ⊎ ((n < length names) × IsOf names new n k)) → ((k < length old) ⊎ (activation_at old k ≡ new_activation)) → (n < length names) × IsOf names new n k
    theirs k n (inl is) (inl before) = (known.within k n before is, of_new k n before (known.theirs k n before is))
    theirs k n (inl is) (inr none) = absurd (false≢true (sym (ap (λ (a : PlainActivation). is_in a.subs n) none) ∙ is))
    theirs k n (inr it) at_k = it

    held : (n k : ℕ) → n ≢ i → IsUnheld names old n → IsOf names new n k → ((k < length old) ⊎ (activation_at old k ≡ new_activation)) → holds n (activation_at old k) ≡ false
    held n k other unheld of_k (inl before) = unheld k before (subst (λ (g : GrainId). same_grain (get_or names n no_entry).1.grain g ≡ true) (becomes.forth k before).1 of_k)
    held n k other unheld of_k (inr none) = ap (holds n) none

    untouched : (n : ℕ) → n < length names → (get_or others n no_state).live ≡ true → IsUnknown names new n → ((n ≡ i) ⊎ (n ≢ i)) → IsUntouched names others new n
    untouched n within is_open unknown (inl same) =
        subst (IsUntouched names others new) (sym same)
        (own (subst (λ m. m < length names) same within) (subst (λ m. (get_or others m no_state).live ≡ true) same is_open) (subst (IsUnknown names new) same unknown))
    untouched n within is_open unknown (inr other) =
        let forgotten = each becomes (λ k a b. is_in b.subs n ≡ false → is_in a.subs n ≡ false) (forgets n other) (λ k none. none) in
        let got = each becomes (λ k a b. holds n a ≡ false → holds n b ≡ false) (gets n other) (λ k none. none) in
        let old_one = known.untouched n within (subst (λ (s : SubState). s.live ≡ true) (stays n other) is_open) (λ k in_k of_k. forgotten k (unknown k (becomes.forth k in_k).0 (of_new k n in_k of_k))) in
        let P : SubState → Type 0 = λ s. (s.cursor ≡ s.resume) × (s.handled ≡ []) in
        let is : P (get_or others n no_state) = subst P (sym (stays n other)) (old_one.at_resume, old_one.unhandled) in
        record { at_resume = is.0; unhandled = is.1; unheld = λ k in_k of_k. got k (held n k other old_one.unheld of_k (beyond old k)) }

-- it knows the same and holds no more
pub known-grain : (names : List (SubName × Registration)) (states : List SubState) (grains : List (GrainId × PlainActivation)) (j : ℕ) (f : PlainActivation → PlainActivation) → AreKnown names states grains → j < length grains
    → (f (activation_at grains j)).subs ≡ (activation_at grains j).subs
    → ((n : ℕ) → holds n (activation_at grains j) ≡ false → holds n (f (activation_at grains j)) ≡ false)
    → AreKnown names states (change_at f j grains)
known-grain names states grains j f known inside knows holds_less =
    known-becomes states (length names) known (becomes-changed grains j f inside)
    (λ n is. inl (subst (λ (subs : List ℕ). is_in subs n ≡ true) knows is)) (λ n other none. subst (λ (subs : List ℕ). is_in subs n ≡ false) knows none)
    (λ n other. holds_less n) (λ n other. refl) (λ within. absurd (omega (arith, within)))

-- ---- numbers among others

with-number-in : (n : ℕ) (ms : List ℕ) → is_in (with_number n ms) n ≡ true
with-number-in n [] = rw (eq-eqb n n refl) refl
with-number-in n (m ∷ ms) = by (nat_lt n m) (n == m) refl (with-number-in n ms)
  where
    by : (less same : Bool) → (n == m) ≡ same → is_in (with_number n ms) n ≡ true
        → is_in (if less then n ∷ m ∷ ms else if same then m ∷ ms else m ∷ with_number n ms) n ≡ true
    by true same is rest = rw (eq-eqb n n refl) refl
    by false true is rest = rw (eq-eqb m n (sym (eqb-true n m is))) refl
    by false false is rest = or_right (m == n) (is_in (with_number n ms) n) rest

-- another number is among them where it was
with-number-other : (n k : ℕ) (ms : List ℕ) → k ≢ n → is_in (with_number n ms) k ≡ is_in ms k
with-number-other n k [] other = ap (λ b. b || false) (ne_eqb n k (λ same. other (sym same)))
with-number-other n k (m ∷ ms) other = by (nat_lt n m) (n == m) (with-number-other n k ms other)
  where
    by : (less same : Bool) → is_in (with_number n ms) k ≡ is_in ms k → is_in (if less then n ∷ m ∷ ms else if same then m ∷ ms else m ∷ with_number n ms) k ≡ is_in (m ∷ ms) k
    by true same rest = ap (λ b. b || is_in (m ∷ ms) k) (ne_eqb n k (λ same. other (sym same)))
    by false true rest = refl
    by false false rest = ap (λ b. (m == k) || b) rest

-- ---- a delivery more

holds-woken : (n : ℕ) (a : PlainActivation) (d : Delivery) → n ≢ d.sub → holds n a ≡ false → holds n (woken a d) ≡ false
holds-woken n a d other was =
    let parts = or_parts (list_any (λ (e : Delivery). n == e.sub) a.mailbox) (runs n a.running) was in
    or_from (list_any (λ (e : Delivery). n == e.sub) (a.mailbox ++ d ∷ [])) (runs n a.running)
    (list_any-append (λ (e : Delivery). n == e.sub) a.mailbox (d ∷ []) ∙ or_from _ _ parts.0 (or_from _ _ (ne_eqb n d.sub other) refl)) parts.1

-- of a record of the grain; whatever the record's state becomes
pub known-woken : {names : List (SubName × Registration)} {states : List SubState} {old new : List (GrainId × PlainActivation)} {j : ℕ} (s : SubState) (d : Delivery) → AreKnown names states old → Becomes old new j (λ a. woken a d) → d.sub < length names → IsOf names new d.sub j
    → AreKnown names (set states d.sub s) new
known-woken {names} {states} {old} {new} {j} s d known becomes within its =
    known-becomes (set states d.sub s) d.sub known becomes (λ n is. learns n is (cases_eq n d.sub)) (λ n other none. sym (with-number-other d.sub n a.subs other) ∙ none)
    (λ n other. holds-woken n a d other) (λ n other. get_or-set_other states d.sub n s no_state other)
    (λ numbered is_open unknown. absurd (false≢true (sym (unknown j becomes.inside its) ∙ ap (λ (b : PlainActivation). is_in b.subs d.sub) becomes.here ∙ with-number-in d.sub a.subs)))
  where
    a : PlainActivation
    a = activation_at old j

    learns : (n : ℕ) → is_in (with_number d.sub a.subs) n ≡ true → ((n ≡ d.sub) ⊎ (n ≢ d.sub)) → ((is_in a.subs n ≡ true) ⊎ ((n < length names) × IsOf names new n j))
    learns n is (inl same) = inr (subst (λ m. (m < length names) × IsOf names new m j) (sym same) (within, its))
    learns n is (inr other) = inl (sym (with-number-other d.sub n a.subs other) ∙ is)
