-- Grains for which nothing waits, and grains of which no turn runs.
use Rattle.stream_laws.proofs.Prelude.{◌≡◌, true, false, List, [], Option, Some, None, unwrap_or, refl, sym, ap, subst, ◌∙◌, AllByRecursion, grain_equality, same_grain-equal, nil_from_nat_lt, none_from_is_some, same_grain, keys_where, value_at, with_value, GrainId, with_value-at, with_value-other, is_running, is_waiting, grain_at, new_grain, Grain, PlainPartition}
use Rattle.stream_laws.proofs.KeyLists.{each-entry, entry-found, keys_where-none}
use Rattle.stream_laws.proofs.Unique.{AreUnique}

-- no turn runs
abbrev pub IsIdle : PlainPartition → Type 0
IsIdle p = (g : GrainId) → (grain_at p g).running ≡ None

-- nothing waits
abbrev pub IsEmptied : PlainPartition → Type 0
IsEmptied p = (g : GrainId) → (grain_at p g).mailbox ≡ []

-- the grain that was set, and the others
pub grain-set : (p : PlainPartition) (grains : List (GrainId × Grain)) (g : GrainId) (st : Grain) → p.grains ≡ with_value same_grain g st grains → grain_at p g ≡ st
grain-set p grains g st is =
    ap (λ (grains : List (GrainId × Grain)). unwrap_or (value_at same_grain g grains) new_grain) is
    ∙ ap (λ (o : Option Grain). unwrap_or o new_grain) (with_value-at same_grain grain_equality g st grains)

pub grain-other : (p : PlainPartition) (grains : List (GrainId × Grain)) (k g : GrainId) (st : Grain) → p.grains ≡ with_value same_grain g st grains → same_grain k g ≡ false → grain_at p k ≡ unwrap_or (value_at same_grain k grains) new_grain
grain-other p grains k g st is other =
    ap (λ (grains : List (GrainId × Grain)). unwrap_or (value_at same_grain k grains) new_grain) is
    ∙ ap (λ (o : Option Grain). unwrap_or o new_grain) (with_value-other same_grain grain_equality k g st grains other)

-- what holds of the grain that was set and of the others holds of each grain
pub each-grain : (P : Grain → Type 0) (q : PlainPartition) (grains : List (GrainId × Grain)) (g : GrainId) (st : Grain) → q.grains ≡ with_value same_grain g st grains → P st → ((k : GrainId) → same_grain k g ≡ false → P (unwrap_or (value_at same_grain k grains) new_grain)) → (k : GrainId) → P (grain_at q k)
each-grain P q grains g st is here others k =
    (elim (same_grain k g) as (λ b. same_grain k g ≡ b → P (grain_at q k)) [
      | true ↦ λ same. subst (λ k. P (grain_at q k)) (sym (same_grain-equal k g same)) (subst P (sym (grain-set q grains g st is)) here)
      | false ↦ λ other. subst P (sym (grain-other q grains k g st is other)) (others k other)
    ]) refl

-- ---- from the list

-- what holds of a grain that was never active and of each value in the list holds of each grain
pub each-grain_at : (P : Grain → Type 0) (p : PlainPartition) → P new_grain → ((g : GrainId) (st : Grain) → value_at same_grain g p.grains ≡ Some st → P st) → (g : GrainId) → P (grain_at p g)
each-grain_at P p new each g =
    (elim (value_at same_grain g p.grains) as (λ (o : Option Grain). value_at same_grain g p.grains ≡ o → P (unwrap_or o new_grain)) [
      | None ↦ λ none. new
      | Some st ↦ λ found. each g st found
    ]) refl

-- nothing waits where nothing does in the list
pub emptied-of : (p : PlainPartition) → keys_where is_waiting p.grains ≡ [] → IsEmptied p
emptied-of p none =
    each-grain_at (λ (st : Grain). st.mailbox ≡ []) p refl
    (λ g st found. nil_from_nat_lt st.mailbox (entry-found same_grain grain_equality (λ (g : GrainId) (st : Grain). is_waiting st ≡ false) p.grains g st (keys_where-none is_waiting p.grains none) found))

-- no turn runs where no grain of the list has one
pub idle-of : (p : PlainPartition) → keys_where is_running p.grains ≡ [] → IsIdle p
idle-of p none =
    let rest = keys_where-none is_running p.grains none in
    each-grain_at (λ (st : Grain). st.running ≡ None) p refl
    (λ g st found. none_from_is_some st.running (entry-found same_grain grain_equality (λ (g : GrainId) (st : Grain). is_running st ≡ false) p.grains g st rest found))

-- what holds of each grain holds of each of the list, where no name stands twice
pub each-found : (P : Grain → Type 0) (p : PlainPartition) → AreUnique same_grain p.grains → ((g : GrainId) → P (grain_at p g)) → AllByRecursion (λ (entry : GrainId × Grain). P entry.1) p.grains
each-found P p unique each =
    each-entry same_grain grain_equality (λ (g : GrainId) (st : Grain). P st) p.grains unique
    (λ g st found. subst P (ap (λ (o : Option Grain). unwrap_or o new_grain) found) (each g))
