-- The numbers of the entries that pass a test, where one is added, changed, put in or taken out.
use Rattle.ranked_index.proofs.Prelude.{◌≡◌, ◌≢◌, ◌∙◌, ap, ap₂, sym, refl, subst, ℕ, ◌+◌, ◌-◌, ◌<◌, ◌≤◌, inl, inr, Bool, true, false, ◌&&◌, List, [], ◌∷◌, ◌++◌, length, get_or, map, filter, set, Option, Some, None, arith, length-set, get_or-set_other, and_from, and_parts, both_ways, cases_eq, cases_lt, cases_order, false_from_ne_true, get_or_append_left, get_or_default, length_push, length-insert, length-remove, get_or-remove_below, get_or-remove_above, insert, remove, slice_index, IsOrder, above, is_above, least, next_after, or_else}
use Rattle.ranked_index.specs.Ranked.{entry_at, IsFirstPast}
use Rattle.ranked_index.specs.Listed.{AreListed, AreListedBut, AreRising, IsListed}
use Rattle.ranked_index.proofs.EntryLemmas.{name_kept}
use Rattle.ranked_index.proofs.RankLemmas.{insert-before, insert-here, insert-past, inserted_each, inserted_pairs, removed_each, removed_pairs, room_below}
use Rattle.ranked_index.proofs.LeastLemmas.{above_where, all_past, least_is, least_none, names_of}

module _ {E N : Type 0} (name : E → N) (lt same : N → N → Bool) (o : IsOrder lt same) (passes : E → Bool) where
  not_self : (a : N) → lt a a ≡ true → ⊥
  not_self a less = both_ways (lt a a) (o.one_way a a less) less

  -- rising names are those of distinct numbers
  rising_apart : (entries : List E) (numbers : List ℕ) → AreRising name lt entries numbers → E → (i j : ℕ) → i < j → j < length numbers → slice_index numbers i ≢ slice_index numbers j
  rising_apart entries numbers are d i j less within is =
      not_self (name (entry_at entries numbers d j)) (ap (λ (n : ℕ). lt (name (get_or entries n d)) (name (entry_at entries numbers d j))) (sym is) ∙ are.rises d i j less within)

  -- the entry with a number, whatever stands for one that is not there
  own : (entries : List E) (number : ℕ) (d : E) → number < length entries → (e : E) (n : ℕ) → n ≡ number → get_or entries n e ≡ get_or entries number d
  own entries number d inside e n here = ap (λ (k : ℕ). get_or entries k e) here ∙ get_or_default entries number e d inside

  -- ---- an entry changed or added

  pub listed-but : (entries : List E) (numbers : List ℕ) (number : ℕ) (e : E) → number < length entries → ((d : E) → name e ≡ name (get_or entries number d)) → AreListed name lt passes entries numbers
      → AreListedBut number name lt passes (set entries number e) numbers
  listed-but entries numbers number e inside named are = record {
    rising = record {
      within = λ i within. omega (arith, length-set entries number e, are.rising.within i within);
      rises = λ d low high less within. ap₂ lt (name_kept entries numbers number e inside name named d (slice_index numbers low)) (name_kept entries numbers number e inside name named d (slice_index numbers high)) ∙ are.rising.rises d low high less within;
    };
    passing = λ d i within other. ap passes (get_or-set_other entries number (slice_index numbers i) e d other) ∙ are.passing d i within;
    listed = λ d n within other passed. are.listed d n (omega (arith, within, length-set entries number e)) (ap passes (sym (get_or-set_other entries number n e d other)) ∙ passed);
  }

  pub listed-more : (entries : List E) (numbers : List ℕ) (e : E) → AreListed name lt passes entries numbers → AreListedBut (length entries) name lt passes (entries ++ e ∷ []) numbers
  listed-more entries numbers e are = record {
    rising = record {
      within = λ i within. omega (arith, length_push entries e, are.rising.within i within);
      rises = λ d low high less within.
          ap₂ (λ (a b : E). lt (name a) (name b)) (old d low (omega (arith, less, within))) (old d high within) ∙ are.rising.rises d low high less within;
    };
    passing = λ d i within other. ap passes (old d i within) ∙ are.passing d i within;
    listed = λ d n within other passed.
        let below : n < length entries = omega (arith, within, length_push entries e, other) in
        are.listed d n below (ap passes (sym (get_or_append_left entries (e ∷ []) d n below)) ∙ passed);
  }
    where
      old : (d : E) (i : ℕ) → i < length numbers → entry_at (entries ++ e ∷ []) numbers d i ≡ entry_at entries numbers d i
      old d i within = get_or_append_left entries (e ∷ []) d (slice_index numbers i) (are.rising.within i within)

  -- ---- where a number stands

  pub listed-last : (entries : List E) (numbers : List ℕ) (number past : ℕ) (d : E) → AreRising name lt entries numbers → IsFirstPast name lt (Some (name (get_or entries number d))) entries numbers past
      → IsListed numbers number → (0 < past) × (slice_index numbers (past - 1) ≡ number)
  listed-last entries numbers number past d rising first is = (omega (arith, low), ap (slice_index numbers) (sym last) ∙ is.at)
    where
      a : N
      a = name (get_or entries number d)

      at : name (entry_at entries numbers d is.place) ≡ a
      at = ap (λ (n : ℕ). name (get_or entries n d)) is.at

      low : is.place < past
      low =
          elim (cases_lt is.place past) [
            | inl less ↦ less
            | inr high ↦ absurd (not_self a (ap (lt a) (sym at) ∙ first.past d is.place high is.within))
          ]

      last : is.place ≡ past - 1
      last =
          elim (cases_lt is.place (past - 1)) [
            | inl less ↦
                absurd (both_ways (lt a (name (entry_at entries numbers d (past - 1)))) (first.before d (past - 1) (omega (arith, low)))
                (ap (λ (b : N). lt b (name (entry_at entries numbers d (past - 1)))) (sym at) ∙ rising.rises d is.place (past - 1) less (omega (arith, low, first.within))))
            | inr more ↦ omega (arith, low, more)
          ]

  -- ---- one that stands where it should

  pub listed-out : (entries : List E) (numbers : List ℕ) (number : ℕ) (d : E) → number < length entries → AreListedBut number name lt passes entries numbers → (IsListed numbers number → ⊥)
      → passes (get_or entries number d) ≡ false → AreListed name lt passes entries numbers
  listed-out entries numbers number d inside are isnt fails = record {
    rising = are.rising;
    passing = λ e i within. are.passing e i within (λ here. isnt (record { place = i; within = within; at = here }));
    listed = λ e n within passed.
        are.listed e n within (λ here. both_ways (passes (get_or entries n e)) (ap passes (own entries number d inside e n here) ∙ fails) passed) passed;
  }

  pub listed-in : (entries : List E) (numbers : List ℕ) (number : ℕ) (d : E) → number < length entries → AreListedBut number name lt passes entries numbers → IsListed numbers number
      → passes (get_or entries number d) ≡ true → AreListed name lt passes entries numbers
  listed-in entries numbers number d inside are is passed = record {
    rising = are.rising;
    passing = λ e i within.
        elim (cases_eq (slice_index numbers i) number) [
          | inl here ↦ ap passes (own entries number d inside e (slice_index numbers i) here) ∙ passed
          | inr other ↦ are.passing e i within other
        ];
    listed = λ e n within has.
        elim (cases_eq n number) [
          | inl here ↦ subst (λ (k : ℕ). IsListed numbers k) (sym here) is
          | inr other ↦ are.listed e n within other has
        ];
  }

  -- ---- one put in or taken out

  pub listed-insert : (entries : List E) (numbers : List ℕ) (number past : ℕ) (d : E) → number < length entries
      → (distinct : (d : E) (i j : ℕ) → i < length entries → j < length entries → same (name (get_or entries i d)) (name (get_or entries j d)) ≡ true → i ≡ j)
      → AreListedBut number name lt passes entries numbers → (IsListed numbers number → ⊥) → passes (get_or entries number d) ≡ true
      → IsFirstPast name lt (Some (name (get_or entries number d))) entries numbers past → AreListed name lt passes entries (insert numbers past number)
  listed-insert entries numbers number past d inside distinct are isnt passed first = record {
    rising = record {
      within = inserted_each numbers past number first.within (λ n. n < length entries) are.rising.within inside;
      rises = λ e. inserted_pairs numbers past number first.within (λ m n. lt (name (get_or entries m e)) (name (get_or entries n e)) ≡ true) (are.rising.rises e) (before e) (after e);
    };
    passing = λ e.
        inserted_each numbers past number first.within (λ n. passes (get_or entries n e) ≡ true) (λ i within. are.passing e i within (λ here. isnt (record { place = i; within = within; at = here })))
        (ap passes (own entries number d inside e number refl) ∙ passed);
    listed = λ e n within has.
        elim (cases_eq n number) [
          | inl here ↦ record { place = past; within = omega (arith, long, first.within); at = insert-here numbers past number 0 first.within past refl ∙ sym here }
          | inr other ↦ moved n (are.listed e n within other has)
        ];
  }
    where
      long : length (insert numbers past number) ≡ length numbers + 1
      long = length-insert numbers past number first.within

      a : N
      a = name (get_or entries number d)

      here_is : (e : E) → name (get_or entries number e) ≡ a
      here_is e = ap name (own entries number d inside e number refl)

      before : (e : E) (i : ℕ) → i < past → lt (name (entry_at entries numbers e i)) (name (get_or entries number e)) ≡ true
      before e i low =
          let within : i < length numbers = omega (arith, low, first.within) in
          o.rest (name (get_or entries number e)) (name (entry_at entries numbers e i)) (ap (λ (b : N). lt b (name (entry_at entries numbers e i))) (here_is e) ∙ first.before e i low)
          (false_from_ne_true (same (name (get_or entries number e)) (name (entry_at entries numbers e i))) (λ is.
          isnt (record { place = i; within = within; at = sym (distinct e number (slice_index numbers i) inside (are.rising.within i within) is) })))

      after : (e : E) (i : ℕ) → past ≤ i → i < length numbers → lt (name (get_or entries number e)) (name (entry_at entries numbers e i)) ≡ true
      after e i high within = ap (λ (b : N). lt b (name (entry_at entries numbers e i))) (here_is e) ∙ first.past e i high within

      moved : (n : ℕ) → IsListed numbers n → IsListed (insert numbers past number) n
      moved n is =
          elim (cases_lt is.place past) [
            | inl low ↦ record { place = is.place; within = omega (arith, long, is.within); at = insert-before numbers past number 0 first.within is.place low ∙ is.at }
            | inr high ↦ record { place = is.place + 1; within = omega (arith, long, is.within); at = insert-past numbers past number 0 first.within (is.place + 1) is.place refl high ∙ is.at }
          ]

  pub listed-remove : (entries : List E) (numbers : List ℕ) (number place : ℕ) (d : E) → number < length entries → AreListedBut number name lt passes entries numbers → place < length numbers
      → slice_index numbers place ≡ number → passes (get_or entries number d) ≡ false → AreListed name lt passes entries (remove numbers place)
  listed-remove entries numbers number place d inside are there at fails = record {
    rising = record {
      within = removed_each numbers place there (λ n. n < length entries) (λ i within other. are.rising.within i within);
      rises = λ e. removed_pairs numbers place there (λ m n. lt (name (get_or entries m e)) (name (get_or entries n e)) ≡ true) (are.rising.rises e);
    };
    passing = λ e. removed_each numbers place there (λ n. passes (get_or entries n e) ≡ true) (λ i within other. are.passing e i within (elsewhere i within other));
    listed = λ e n within passed.
        let other : n ≢ number = λ here. both_ways (passes (get_or entries n e)) (ap passes (own entries number d inside e n here) ∙ fails) passed in
        left n other (are.listed e n within other passed);
  }
    where
      elsewhere : (i : ℕ) → i < length numbers → i ≢ place → slice_index numbers i ≢ number
      elsewhere i within other is =
          elim (cases_lt i place) [
            | inl less ↦ rising_apart entries numbers are.rising d i place less there (is ∙ sym at)
            | inr more ↦ rising_apart entries numbers are.rising d place i (omega (arith, more, other)) within (at ∙ sym is)
          ]

      left : (n : ℕ) → n ≢ number → IsListed numbers n → IsListed (remove numbers place) n
      left n other is =
          let apart : is.place ≢ place = λ here. other (sym is.at ∙ ap (slice_index numbers) here ∙ at) in
          let long = length-remove numbers place there in
          elim (cases_lt is.place place) [
            | inl low ↦ record { place = is.place; within = omega (arith, long, low, there); at = get_or-remove_below numbers place 0 is.place low there ∙ is.at }
            | inr high ↦
                let back : is.place - 1 + 1 ≡ is.place = omega (arith, high, apart) in
                record {
                  place = is.place - 1;
                  within = omega (arith, long, is.within, high, apart);
                  at = get_or-remove_above numbers place 0 (is.place - 1) (omega (arith, high, apart)) there ∙ ap (slice_index numbers) back ∙ is.at;
                }
          ]

  -- where one does not stand, they are fewer than the entries
  pub listed-room : (entries : List E) (numbers : List ℕ) (number : ℕ) → number < length entries → AreRising name lt entries numbers → (IsListed numbers number → ⊥) → length numbers < length entries
  listed-room [] numbers number inside are isnt = absurd (omega (arith, inside))
  listed-room (d ∷ entries) numbers number inside are isnt = room_below (length (d ∷ entries)) number numbers inside are.within (rising_apart (d ∷ entries) numbers are d) isnt

  -- ---- the next by name

  -- the least past a name is that of the first number past it
  least_past : (entries : List E) (numbers : List ℕ) (after : Option N) (past : ℕ) (d : E) → AreListed name lt passes entries numbers → IsFirstPast name lt after entries numbers past → past < length numbers
      → least lt (above lt after (names_of name lt same o passes entries)) ≡ Some (name (entry_at entries numbers d past))
  least_past entries numbers after past d are first within =
      ap (least lt) (above_where name lt same o passes after entries)
      ∙ least_is name lt same o (λ e. passes e && is_above lt after (name e)) d entries (slice_index numbers past) (are.rising.within past within)
      (and_from (passes (entry_at entries numbers d past)) (is_above lt after (name (entry_at entries numbers d past))) (are.passing d past within) (first.past d past (omega arith) within))
      (λ j inside both.
      let parts = and_parts (passes (get_or entries j d)) (is_above lt after (name (get_or entries j d))) both in
      let is = are.listed d j inside parts.0 in
      elim (cases_order is.place past) [
        | inl here ↦ inl (sym is.at ∙ ap (slice_index numbers) here)
        | inr apart ↦ elim apart [
          | inl low ↦
              absurd (both_ways (is_above lt after (name (get_or entries j d))) (ap (λ (n : ℕ). is_above lt after (name (get_or entries n d))) (sym is.at) ∙ first.before d is.place low) parts.1)
          | inr high ↦
              inr (ap (λ (n : ℕ). lt (name (entry_at entries numbers d past)) (name (get_or entries n d))) (sym is.at) ∙ are.rising.rises d past is.place high is.within)
        ]
      ])

  -- none is past a name that no number is past
  none_past : (entries : List E) (numbers : List ℕ) (after : Option N) (past : ℕ) (d : E) → AreListed name lt passes entries numbers → IsFirstPast name lt after entries numbers past → length numbers ≤ past
      → least lt (above lt after (names_of name lt same o passes entries)) ≡ None
  none_past entries numbers after past d are first end =
      ap (least lt) (above_where name lt same o passes after entries)
      ∙ least_none name lt same o (λ e. passes e && is_above lt after (name e)) d entries (λ j inside.
      false_from_ne_true (passes (get_or entries j d) && is_above lt after (name (get_or entries j d))) (λ both.
      let parts = and_parts (passes (get_or entries j d)) (is_above lt after (name (get_or entries j d))) both in
      let is = are.listed d j inside parts.0 in
      both_ways (is_above lt after (name (get_or entries j d)))
      (ap (λ (n : ℕ). is_above lt after (name (get_or entries n d))) (sym is.at) ∙ first.before d is.place (omega (arith, end, is.within))) parts.1))

  pub next_listed-past : (entries : List E) (numbers : List ℕ) (after : Option N) (past : ℕ) (d : E) → AreListed name lt passes entries numbers → IsFirstPast name lt after entries numbers past
      → past < length numbers → next_after lt after (map name (filter passes entries)) ≡ Some (name (entry_at entries numbers d past))
  next_listed-past entries numbers after past d are first within =
      ap (λ (found : Option N). or_else found (least lt (map name (filter passes entries)))) (least_past entries numbers after past d are first within)

  pub next_listed-first : (entries : List E) (numbers : List ℕ) (after : Option N) (past : ℕ) (d : E) → AreListed name lt passes entries numbers → IsFirstPast name lt after entries numbers past
      → length numbers ≤ past → 0 < length numbers → next_after lt after (map name (filter passes entries)) ≡ Some (name (entry_at entries numbers d 0))
  next_listed-first entries numbers after past d are first end some =
      ap (λ (found : Option N). or_else found (least lt (map name (filter passes entries)))) (none_past entries numbers after past d are first end)
      ∙ least_past entries numbers None 0 d are (all_past name lt same o entries numbers) some

  pub next_listed-none : (entries : List E) (numbers : List ℕ) (after : Option N) → AreListed name lt passes entries numbers → length numbers ≡ 0
      → next_after lt after (map name (filter passes entries)) ≡ None
  next_listed-none [] numbers None are empty = refl
  next_listed-none [] numbers (Some a) are empty = refl
  next_listed-none (d ∷ entries) numbers after are empty =
      ap (λ (found : Option N). or_else found (least lt (map name (filter passes (d ∷ entries))))) (none_past (d ∷ entries) numbers after 0 d are first (omega (arith, empty)))
      ∙ none_past (d ∷ entries) numbers None 0 d are (all_past name lt same o (d ∷ entries) numbers) (omega (arith, empty))
    where
      first : IsFirstPast name lt after (d ∷ entries) numbers 0
      first = record { within = omega arith; before = λ e i low. absurd (omega (arith, low)); past = λ e i high within. absurd (omega (arith, within, empty)) }
