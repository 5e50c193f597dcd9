-- The least of a list, its elements in order, and keys whose values pass.
use Rattle.stream_laws.proofs.Prelude.{◌≡◌, Bool, true, false, ◌||◌, List, [], ◌∷◌, map, filter, Option, Some, None, if◌then◌else◌, refl, sym, ap, subst, ◌∙◌, cond_both, AllByRecursion, list_any, IsEquality, keys_where, least, lesser, value_at, in_order, insert_in_order}
use Rattle.stream_laws.proofs.Unique.{AreUnique}

-- what holds of each element holds of the least
pub least-of : {A : Type 0} (P : A → Type 0) (lt : A → A → Bool) (xs : List A) (x : A) → AllByRecursion P xs → least lt xs ≡ Some x → P x
least-of P lt [] x all is = absurd (cc)
least-of {A} P lt (y ∷ ys) x all is =
    (elim (least lt ys) as (λ (o : Option A). least lt ys ≡ o → Some (lesser lt y o) ≡ Some x → P x) [
      | None ↦ λ rest is. let same : y ≡ x = cc in subst P same all.0
      | Some b ↦ λ rest is.
          let same : (if lt b y then b else y) ≡ x = cc in
          subst P same (cond_both (lt b y) b y P (λ _. least-of P lt ys b all.1 rest) (λ _. all.0))
    ]) refl is

-- where there is no least, there is none
pub least-none : {A : Type 0} (lt : A → A → Bool) (xs : List A) → least lt xs ≡ None → xs ≡ []
least-none lt [] is = refl
least-none lt (x ∷ xs) is = absurd (cc)

pub All-insert : {A : Type 0} (P : A → Type 0) (lt : A → A → Bool) (x : A) (xs : List A) → P x → AllByRecursion P xs → AllByRecursion P (insert_in_order lt x xs)
All-insert P lt x [] here all = (here, tt)
All-insert P lt x (y ∷ ys) here all =
    cond_both (lt y x) (y ∷ insert_in_order lt x ys) (x ∷ y ∷ ys) (AllByRecursion P) (λ _. (all.0, All-insert P lt x ys here all.1)) (λ _. (here, all))

pub All-in_order : {A : Type 0} (P : A → Type 0) (lt : A → A → Bool) (xs : List A) → AllByRecursion P xs → AllByRecursion P (in_order lt xs)
All-in_order P lt [] all = tt
All-in_order P lt (x ∷ xs) all = All-insert P lt x (in_order lt xs) all.0 (All-in_order P lt xs all.1)

or-swap : (a b c : Bool) → (a || (b || c)) ≡ (b || (a || c))
or-swap true true c = refl
or-swap true false c = refl
or-swap false b c = refl

any-insert : {A : Type 0} (test : A → Bool) (lt : A → A → Bool) (x : A) (xs : List A) → list_any test (insert_in_order lt x xs) ≡ (test x || list_any test xs)
any-insert test lt x [] = refl
any-insert {A} test lt x (y ∷ ys) =
    cond_both (lt y x) (y ∷ insert_in_order lt x ys) (x ∷ y ∷ ys) (λ (zs : List A). list_any test zs ≡ (test x || (test y || list_any test ys)))
    (λ _. ap (λ b. test y || b) (any-insert test lt x ys) ∙ or-swap (test y) (test x) (list_any test ys)) (λ _. refl)

pub any-in_order : {A : Type 0} (test : A → Bool) (lt : A → A → Bool) (xs : List A) → list_any test (in_order lt xs) ≡ list_any test xs
any-in_order test lt [] = refl
any-in_order test lt (x ∷ xs) = any-insert test lt x (in_order lt xs) ∙ ap (λ b. test x || b) (any-in_order test lt xs)

-- what a look-up finds holds of each entry, where no key stands twice
pub each-entry : {K V : Type 0} (same : K → K → Bool) → IsEquality same → (P : K → V → Type 0) (entries : List (K × V)) → AreUnique same entries → ((k : K) (v : V) → value_at same k entries ≡ Some v → P k v) → AllByRecursion (λ (entry : K × V). P entry.0 entry.1) entries
each-entry same is P [] unique each = tt
each-entry {K} {V} same is P (entry ∷ entries) unique each = (
  each entry.0 entry.1 (rw (is.reflexive entry.0) refl),
  each-entry same is P entries unique.1 (λ k v found. each k v (behind k v found)),
)
  where
    -- a key further back isn't the first
    apart : (k : K) (v : V) → value_at same k entries ≡ Some v → (b : Bool) → same k entry.0 ≡ b → same k entry.0 ≡ false
    apart k v found true here =
        let gone : value_at same k entries ≡ None = subst (λ q. value_at same q entries ≡ None) (sym (is.equal k entry.0 here)) unique.0 in
        absurd (cc)
    apart k v found false there = there

    behind : (k : K) (v : V) → value_at same k entries ≡ Some v → value_at same k (entry ∷ entries) ≡ Some v
    behind k v found = rw (apart k v found (same k entry.0) refl) found

-- and what holds of each entry holds of what a look-up finds
pub entry-found : {K V : Type 0} (same : K → K → Bool) → IsEquality same → (P : K → V → Type 0) (entries : List (K × V)) (k : K) (v : V) → AllByRecursion (λ (entry : K × V). P entry.0 entry.1) entries → value_at same k entries ≡ Some v → P k v
entry-found same is P [] k v all found = absurd (cc)
entry-found {K} {V} same is P (entry ∷ entries) k v all found =
    (elim (same k entry.0) as (λ b. same k entry.0 ≡ b → (if b then Some entry.1 else value_at same k entries) ≡ Some v → P k v) [
      | true ↦ λ here found.
          let value : entry.1 ≡ v = cc in
          subst (P k) value (subst (λ q. P q entry.1) (sym (is.equal k entry.0 here)) all.0)
      | false ↦ λ there found. entry-found same is P entries k v all.1 found
    ]) refl found

-- the keys of the entries that pass
pub All-keys_where : {K V : Type 0} (P : K → Type 0) (passes : V → Bool) (entries : List (K × V)) → AllByRecursion (λ (entry : K × V). passes entry.1 ≡ true → P entry.0) entries → AllByRecursion P (keys_where passes entries)
All-keys_where P passes [] all = tt
All-keys_where {K} {V} P passes (entry ∷ entries) all =
    (elim (passes entry.1) as (λ b. (b ≡ true → P entry.0) → AllByRecursion P (map (λ (e : K × V). e.0) (if b then entry ∷ filter (λ (e : K × V). passes e.1) entries else filter (λ (e : K × V). passes e.1) entries))) [
      | true ↦ λ here. (here refl, All-keys_where P passes entries all.1)
      | false ↦ λ here. All-keys_where P passes entries all.1
    ]) all.0

-- where there is none, no entry passes
pub keys_where-none : {K V : Type 0} (passes : V → Bool) (entries : List (K × V)) → keys_where passes entries ≡ [] → AllByRecursion (λ (entry : K × V). passes entry.1 ≡ false) entries
keys_where-none passes [] none = tt
keys_where-none {K} {V} passes (entry ∷ entries) none =
    (elim (passes entry.1) as (λ b. map (λ (e : K × V). e.0) (if b then entry ∷ filter (λ (e : K × V). passes e.1) entries else filter (λ (e : K × V). passes e.1) entries) ≡ [] → (b ≡ false) × AllByRecursion (λ (e : K × V). passes e.1 ≡ false) entries) [
      | true ↦ λ none. absurd (cc)
      | false ↦ λ none. (refl, keys_where-none passes entries none)
    ]) none

-- and the other way round
pub keys_where-empty : {K V : Type 0} (passes : V → Bool) (entries : List (K × V)) → AllByRecursion (λ (entry : K × V). passes entry.1 ≡ false) entries → keys_where passes entries ≡ []
keys_where-empty passes [] all = refl
keys_where-empty passes (entry ∷ entries) all = rw all.0 (keys_where-empty passes entries all.1)

-- a key whose value passes is among them
pub any-keys_where : {K V : Type 0} (same : K → K → Bool) (passes : V → Bool) (k : K) (v : V) (entries : List (K × V)) → value_at same k entries ≡ Some v → passes v ≡ true → list_any (same k) (keys_where passes entries) ≡ true
any-keys_where same passes k v [] found pass = absurd (cc)
any-keys_where {K} {V} same passes k v (entry ∷ entries) found pass =
    (elim (same k entry.0) as (λ b. same k entry.0 ≡ b → (if b then Some entry.1 else value_at same k entries) ≡ Some v → list_any (same k) (keys_where passes (entry ∷ entries)) ≡ true) [
      | true ↦ λ here found.
          let passes_here : passes entry.1 ≡ true = ap passes (let value : entry.1 ≡ v = cc in value) ∙ pass in
          rw (passes_here, here) refl
      | false ↦ λ there found.
          (elim (passes entry.1) as (λ b. list_any (same k) (map (λ (e : K × V). e.0) (if b then entry ∷ filter (λ (e : K × V). passes e.1) entries else filter (λ (e : K × V). passes e.1) entries)) ≡ true) [
            | true ↦ rw there (any-keys_where same passes k v entries found pass)
            | false ↦ any-keys_where same passes k v entries found pass
          ])
    ]) refl found
