-- Names that are the same.
use Rattle.stream_ident.proofs.Prelude.{◌≡◌, ◌&&◌, ℕ, Bool, true, List, refl, ap, and_from, and_parts, eqb-true, eq-eqb, false≢true}
use Rattle.std.specs.Cmp.Lexicographic.{bytes_decides}
use Rattle.stream_ident.specs.declared.ident.GrainId.{GrainId}
use Rattle.stream_ident.specs.declared.ident.StreamId.{StreamId}
use Rattle.stream_ident.specs.declared.ident.SubName.{SubName}
use Rattle.stream_ident.specs.declared.ident.SubName.TheVariants.{Explicit, Implicit}
use Rattle.stream_ident.specs.Name.{same_name, same_stream, same_grain}
use Rattle.stream_ident.specs.SubName.{same_sub}

pub same_name-equal : (a b : List ℕ) → same_name a b ≡ true → a ≡ b
same_name-equal a b same = (bytes_decides a b).0 same

pub same_name-refl : (a : List ℕ) → same_name a a ≡ true
same_name-refl a = (bytes_decides a a).1 refl

same_names-equal : (a b k l : List ℕ) → (same_name a b && same_name k l) ≡ true → (a ≡ b) × (k ≡ l)
same_names-equal a b k l same =
    let parts = and_parts (same_name a b) (same_name k l) same in (same_name-equal a b parts.0, same_name-equal k l parts.1)

pub same_stream-equal : (a b : StreamId) → same_stream a b ≡ true → a ≡ b
same_stream-equal a b same =
    let equal = same_names-equal a.namespace b.namespace a.key b.key same in λ i. record { namespace = equal.0 i; key = equal.1 i }

pub same_stream-refl : (a : StreamId) → same_stream a a ≡ true
same_stream-refl a = and_from (same_name a.namespace a.namespace) (same_name a.key a.key) (same_name-refl a.namespace) (same_name-refl a.key)

pub same_grain-equal : (a b : GrainId) → same_grain a b ≡ true → a ≡ b
same_grain-equal a b same =
    let equal = same_names-equal a.kind b.kind a.key b.key same in λ i. record { kind = equal.0 i; key = equal.1 i }

pub same_grain-refl : (a : GrainId) → same_grain a a ≡ true
same_grain-refl a = and_from (same_name a.kind a.kind) (same_name a.key a.key) (same_name-refl a.kind) (same_name-refl a.key)

pub same_sub-equal : (a b : SubName) → same_sub a b ≡ true → a ≡ b
same_sub-equal (Explicit m) (Explicit n) same = ap Explicit (eqb-true m n same)
same_sub-equal (Explicit m) (Implicit kind stream) same = absurd (false≢true same)
same_sub-equal (Implicit kind stream) (Explicit n) same = absurd (false≢true same)
same_sub-equal (Implicit kind stream) (Implicit other_kind other_stream) same =
    let parts = and_parts (same_name kind other_kind) (same_stream stream other_stream) same in
    let kinds = same_name-equal kind other_kind parts.0 in
    let streams = same_stream-equal stream other_stream parts.1 in
    λ i. Implicit (kinds i) (streams i)

pub same_sub-refl : (a : SubName) → same_sub a a ≡ true
same_sub-refl (Explicit m) = eq-eqb m m refl
same_sub-refl (Implicit kind stream) = and_from (same_name kind kind) (same_stream stream stream) (same_name-refl kind) (same_stream-refl stream)

-- a test of keys that holds of equal ones alone
pub record IsEquality {K : Type 0} (same : K → K → Bool) : Type 0 where
  pub equal : (a b : K) → same a b ≡ true → a ≡ b
  pub reflexive : (a : K) → same a a ≡ true

pub sub_equality : IsEquality same_sub
sub_equality = record { equal = same_sub-equal; reflexive = same_sub-refl }

pub grain_equality : IsEquality same_grain
grain_equality = record { equal = same_grain-equal; reflexive = same_grain-refl }
