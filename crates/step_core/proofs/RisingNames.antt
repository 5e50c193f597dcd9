-- Names that rise: those past a name are those up to the next one, then that one, then those past it.
use Rattle.step_core.proofs.Prelude.{◌≡◌, ◌∙◌, ap, sym, refl, subst, Bool, true, false, ◌||◌, List, [], ◌∷◌, ◌++◌, filter, map, Option, Some, None, both_ways, cond_both, false_from_ne_true, or_parts, or_right, AllByRecursion, list_any, ⊤, All-weaken, IsEquality, above, is_above, keys_where, least, lesser, value_at, in_order, insert_in_order, if◌then◌else◌}
use Rattle.std.proofs.lemmas.Map.Views.{any-filter_same}
use Rattle.stream_ident.proofs.Order.{IsOrder}
use Rattle.stream_laws.proofs.KeyLists.{All-insert, any-in_order, least-none, least-of}
use Rattle.stream_laws.proofs.Unique.{AreUnique, same-swap}

-- all pass
pub filter-all : {X : Type 0} (passes : X → Bool) (xs : List X) → AllByRecursion (λ x. passes x ≡ true) xs → filter passes xs ≡ xs
filter-all passes [] all = refl
filter-all passes (x ∷ xs) all = rw all.0 (ap (λ rest. x ∷ rest) (filter-all passes xs all.1))

-- those past a name, as those that pass a test
pub above-filter : {X : Type 0} (lt : X → X → Bool) (after : Option X) (xs : List X) → above lt after xs ≡ filter (is_above lt after) xs
above-filter lt (Some a) xs = refl
above-filter lt None [] = refl
above-filter lt None (x ∷ xs) = ap (λ rest. x ∷ rest) (above-filter lt None xs)

module _ {X : Type 0} (lt same : X → X → Bool) (order : IsOrder lt same) (equality : IsEquality same) where
  -- each is less than those behind it
  abbrev pub AreRising : List X → Type 0
  AreRising [] = ⊤
  AreRising (x ∷ xs) = AllByRecursion (λ (y : X). lt x y ≡ true) xs × AreRising xs

  -- no two are the same
  abbrev pub AreApart : List X → Type 0
  AreApart [] = ⊤
  AreApart (x ∷ xs) = (list_any (same x) xs ≡ false) × AreApart xs

  rising-insert : (x : X) (xs : List X) → list_any (same x) xs ≡ false → AreRising xs → AreRising (insert_in_order lt x xs)
  rising-insert x [] new up = (tt, tt)
  rising-insert x (y ∷ ys) new up =
      let apart = or_parts (same x y) (list_any (same x) ys) new in
      cond_both (lt y x) (y ∷ insert_in_order lt x ys) (x ∷ y ∷ ys) AreRising
      (λ below. (All-insert (λ (z : X). lt y z ≡ true) lt x ys below up.0, rising-insert x ys apart.1 up.1))
      (λ under.
      let less : lt x y ≡ true = order.rest y x under (same-swap same equality x y apart.0) in
      ((less, All-weaken (λ (z : X). lt y z ≡ true) (λ (z : X). lt x z ≡ true) (λ z further. order.chain x y z less further) ys up.0), up))

  pub rising-in_order : (xs : List X) → AreApart xs → AreRising (in_order lt xs)
  rising-in_order [] apart = tt
  rising-in_order (x ∷ xs) apart = rising-insert x (in_order lt xs) (any-in_order (same x) lt xs ∙ apart.0) (rising-in_order xs apart.1)

  -- what holds of each holds of one that is among them
  pub of-any : (P : X → Type 0) (x : X) (xs : List X) → AllByRecursion P xs → list_any (same x) xs ≡ true → P x
  of-any P x [] all found = absurd (cc)
  of-any P x (y ∷ ys) all found =
      (elim (same x y) as (λ b. same x y ≡ b → (b || list_any (same x) ys) ≡ true → P x) [
        | true ↦ λ here _. subst P (sym (equality.equal x y here)) all.0
        | false ↦ λ there found. of-any P x ys all.1 found
      ]) refl found

  -- one is found among those that rise, where this test holds of it and of all behind it: what passes the test are those in
  -- front of it that do, then it, then those past it
  pub record IsSplit (P : X → Type 0) (passes : X → Bool) (x : X) (xs : List X) : Type 0 where
    pub front : List X
    pub is : front ++ x ∷ filter (lt x) xs ≡ filter passes xs
    pub each : AllByRecursion (λ (y : X). P y × ((passes y ≡ true) × (lt y x ≡ true))) front

  pub split-at : (P : X → Type 0) (passes : X → Bool) → ((x y : X) → lt x y ≡ true → passes x ≡ true → passes y ≡ true) → (x : X) → passes x ≡ true → (xs : List X) → AllByRecursion P xs → AreRising xs → list_any (same x) xs ≡ true → IsSplit P passes x xs
  split-at P passes onward x pass [] each up found = absurd (cc)
  split-at P passes onward x pass (y ∷ ys) each up found = by (λ later. split-at P passes onward x pass ys each.1 up.1 later) (same x y) refl found
    where
      here : x ≡ y → IsSplit P passes x (y ∷ ys)
      here is =
          let all_pass : filter passes ys ≡ ys = filter-all passes ys (All-weaken (λ (z : X). lt y z ≡ true) (λ (z : X). passes z ≡ true) (λ z less. onward y z less (subst (λ (w : X). passes w ≡ true) is pass)) ys up.0) in
          let all_past : filter (lt x) ys ≡ ys = subst (λ (w : X). filter (lt w) ys ≡ ys) (sym is) (filter-all (lt y) ys up.0) in
          let not_itself : lt x y ≡ false = (order.apart x y (subst (λ (w : X). same x w ≡ true) is (equality.reflexive x))).0 in
          let passes_y : passes y ≡ true = subst (λ (w : X). passes w ≡ true) is pass in
          record {
            front = [];
            is = rw (not_itself, passes_y, all_past, all_pass) (ap (λ (w : X). w ∷ ys) is);
            each = tt;
          }

      there : IsSplit P passes x ys → list_any (same x) ys ≡ true → IsSplit P passes x (y ∷ ys)
      there rest later =
          let less : lt y x ≡ true = of-any (λ (z : X). lt y z ≡ true) x ys up.0 later in
          let behind : lt x y ≡ false = order.one_way y x less in
          (elim (passes y) as (λ b. passes y ≡ b → IsSplit P passes x (y ∷ ys)) [
            | true ↦ λ pass_y. record {
              front = y ∷ rest.front;
              is = rw (behind, pass_y) (ap (λ (zs : List X). y ∷ zs) rest.is);
              each = ((each.0, (pass_y, less)), rest.each);
            }
            | false ↦ λ stop. record { front = rest.front; is = rw (behind, stop) rest.is; each = rest.each }
          ]) refl

      by : (list_any (same x) ys ≡ true → IsSplit P passes x ys) → (b : Bool) → same x y ≡ b → (b || list_any (same x) ys) ≡ true → IsSplit P passes x (y ∷ ys)
      by rest true is _ = here (equality.equal x y is)
      by rest false is later = there (rest later) later

  -- no element is less than the least
  pub least-below : (xs : List X) (x : X) → least lt xs ≡ Some x → AllByRecursion (λ (y : X). lt y x ≡ false) xs
  least-below [] x is = absurd (cc)
  least-below (y ∷ ys) x is = by (λ b found. least-below ys b found) (least lt ys) refl is
    where
      itself : (z : X) → lt z z ≡ false
      itself z = (order.apart z z (equality.reflexive z)).0

      none-below : (zs : List X) → least lt zs ≡ None → (w : X) → AllByRecursion (λ (z : X). lt z w ≡ false) zs
      none-below [] none w = tt
      none-below (z ∷ zs) none w = absurd (cc)

      -- what isn't below b isn't below y, where b isn't
      under : (b z : X) → lt b y ≡ false → lt z b ≡ false → lt z y ≡ false
      under b z not_below above_b = false_from_ne_true (lt z y) (λ below.
          (elim (same b y) as (λ t. same b y ≡ t → ⊥) [
            | true ↦ λ alike. both_ways (lt z b) above_b (subst (λ (w : X). lt z w ≡ true) (sym (equality.equal b y alike)) below)
            | false ↦ λ other. both_ways (lt z b) above_b (order.chain z y b below (order.rest b y not_below other))
          ]) refl)

      by : ((b : X) → least lt ys ≡ Some b → AllByRecursion (λ (z : X). lt z b ≡ false) ys) → (o : Option X) → least lt ys ≡ o → Some (lesser lt y o) ≡ Some x → AllByRecursion (λ (z : X). lt z x ≡ false) (y ∷ ys)
      by rest None none is =
          let same_x : y ≡ x = cc in
          (subst (λ (w : X). lt y w ≡ false) same_x (itself y), none-below ys none x)
      by rest (Some b) found is =
          let same_x : (if lt b y then b else y) ≡ x = cc in
          subst (λ (w : X). AllByRecursion (λ (z : X). lt z w ≡ false) (y ∷ ys)) same_x
          (cond_both (lt b y) b y (λ (w : X). AllByRecursion (λ (z : X). lt z w ≡ false) (y ∷ ys))
          (λ below. (order.one_way b y below, rest b found))
          (λ not_below. (itself y, All-weaken (λ (z : X). lt z b ≡ false) (λ (z : X). lt z y ≡ false) (λ z above_b. under b z not_below above_b) ys (rest b found))))

  any-above : (after : Option X) (x : X) (xs : List X) → list_any (same x) xs ≡ true → is_above lt after x ≡ true → list_any (same x) (filter (is_above lt after) xs) ≡ true
  any-above after x xs found past =
      any-filter_same (same x) (is_above lt after) true (λ y alike. subst (λ (w : X). is_above lt after w ≡ true) (equality.equal x y alike) past) xs ∙ found

  -- one that is among some, and past the given one, isn't less than the least of those past it
  pub not-passed : (after : Option X) (x y : X) (xs : List X) → list_any (same x) xs ≡ true → is_above lt after x ≡ true → least lt (above lt after xs) ≡ Some y → lt x y ≡ false
  not-passed after x y xs found past is =
      of-any (λ (z : X). lt z y ≡ false) x (filter (is_above lt after) xs)
      (subst (λ (zs : List X). AllByRecursion (λ (z : X). lt z y ≡ false) zs) (above-filter lt after xs) (least-below (above lt after xs) y is))
      (any-above after x xs found past)

  -- and where none is past it, it isn't either
  pub none-past : (after : Option X) (x : X) (xs : List X) → list_any (same x) xs ≡ true → least lt (above lt after xs) ≡ None → is_above lt after x ≡ false
  none-past after x xs found none =
      false_from_ne_true (is_above lt after x) (λ past.
      let here : list_any (same x) (filter (is_above lt after) xs) ≡ true = any-above after x xs found past in
      let nothing : filter (is_above lt after) xs ≡ [] = sym (above-filter lt after xs) ∙ least-none lt (above lt after xs) none in
      both_ways (list_any (same x) (filter (is_above lt after) xs)) (ap (list_any (same x)) nothing) here)

  among-first : (x : X) (xs : List X) → list_any (same x) (x ∷ xs) ≡ true
  among-first x xs = rw (equality.reflexive x) refl

  among-behind : (z x : X) (xs : List X) → list_any (same z) xs ≡ true → list_any (same z) (x ∷ xs) ≡ true
  among-behind z x xs there = or_right (same z x) (list_any (same z) xs) there

  among-past : (after : Option X) (xs all : List X) → ((z : X) → list_any (same z) xs ≡ true → list_any (same z) all ≡ true) → AllByRecursion (λ (z : X). (is_above lt after z ≡ true) × (list_any (same z) all ≡ true)) (filter (is_above lt after) xs)
  among-past after [] all among = tt
  among-past after (x ∷ xs) all among =
      let rest = among-past after xs all (λ z there. among z (among-behind z x xs there)) in
      cond_both (is_above lt after x) (x ∷ filter (is_above lt after) xs) (filter (is_above lt after) xs) (AllByRecursion (λ (z : X). (is_above lt after z ≡ true) × (list_any (same z) all ≡ true)))
      (λ past. ((past, among x (among-first x xs)), rest)) (λ _. rest)

  -- the least of those past a name is past it, and among them
  pub least-past : (after : Option X) (y : X) (xs : List X) → least lt (above lt after xs) ≡ Some y → (is_above lt after y ≡ true) × (list_any (same y) xs ≡ true)
  least-past after y xs is =
      least-of (λ (z : X). (is_above lt after z ≡ true) × (list_any (same z) xs ≡ true)) lt (above lt after xs) y
      (subst (AllByRecursion (λ (z : X). (is_above lt after z ≡ true) × (list_any (same z) xs ≡ true))) (sym (above-filter lt after xs)) (among-past after xs xs (λ z there. there))) is

  -- one that is among them, and that none is less than, is the least
  pub least-is : (x : X) (xs : List X) → list_any (same x) xs ≡ true → AllByRecursion (λ (y : X). lt y x ≡ false) xs → Some x ≡ least lt xs
  least-is x xs found under =
      (elim (least lt xs) as (λ (o : Option X). least lt xs ≡ o → Some x ≡ o) [
        | None ↦ λ none. absurd (both_ways (list_any (same x) xs) (ap (list_any (same x)) (least-none lt xs none)) found)
        | Some y ↦ λ is.
            let not_above : lt y x ≡ false = least-of (λ (z : X). lt z x ≡ false) lt xs y under is in
            let not_below : lt x y ≡ false = of-any (λ (z : X). lt z y ≡ false) x xs (least-below xs y is) found in
            ap {B = Option X} Some (alike x y not_below not_above)
      ]) refl
    where
      alike : (x y : X) → lt x y ≡ false → lt y x ≡ false → x ≡ y
      alike x y not_below not_above =
          (elim (same x y) as (λ b. same x y ≡ b → x ≡ y) [
            | true ↦ λ here. equality.equal x y here
            | false ↦ λ other. absurd (both_ways (lt y x) not_above (order.rest x y not_below other))
          ]) refl

-- the keys of entries among which no key stands twice are apart
absent-key : {K V : Type 0} (same : K → K → Bool) (passes : V → Bool) (k : K) (entries : List (K × V)) → value_at same k entries ≡ None → list_any (same k) (keys_where passes entries) ≡ false
absent-key same passes k [] none = refl
absent-key {K} {V} same passes k (entry ∷ entries) none =
    (elim (same k entry.0) as (λ b. same k entry.0 ≡ b → (if b then Some entry.1 else value_at same k entries) ≡ None → list_any (same k) (keys_where passes (entry ∷ entries)) ≡ false) [
      | true ↦ λ here none. absurd (cc)
      | false ↦ λ there none.
          let rest = absent-key same passes k entries none in
          cond_both (passes entry.1) (entry ∷ filter (λ (e : K × V). passes e.1) entries) (filter (λ (e : K × V). passes e.1) entries) (λ (es : List (K × V)). list_any (same k) (map (λ (e : K × V). e.0) es) ≡ false)
          (λ _. rw there rest) (λ _. rest)
    ]) refl none

pub apart-keys : {K V : Type 0} (lt same : K → K → Bool) (order : IsOrder lt same) (equality : IsEquality same) (passes : V → Bool) (entries : List (K × V)) → AreUnique same entries → AreApart lt same order equality (keys_where passes entries)
apart-keys lt same order equality passes [] unique = tt
apart-keys {K} {V} lt same order equality passes (entry ∷ entries) unique =
    let rest = apart-keys lt same order equality passes entries unique.1 in
    cond_both (passes entry.1) (entry ∷ filter (λ (e : K × V). passes e.1) entries) (filter (λ (e : K × V). passes e.1) entries) (λ (es : List (K × V)). AreApart lt same order equality (map (λ (e : K × V). e.0) es))
    (λ _. (absent-key same passes entry.0 entries unique.0, rest)) (λ _. rest)
