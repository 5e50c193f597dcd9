-- What comes first, by names and then by what follows them.
use Rattle.stream_ident.proofs.Prelude.{Ordering, Less, Equal, Greater, sym, ap, ◌∙◌, arith, nat_tests, is_lt, is_eq, nat_cmp, is_some_and, partial_ordering_then, Some, Option, nat_lt}
use Rattle.std.specs.Prelude.{◌≡◌, ℕ, ◌&&◌, ◌||◌, List, refl}
use Rattle.std.specs.Cmp.Lexicographic.{slice_cmp, texts_ties}
use Rattle.stream_ident.specs.Name.{name_lt, same_name, stream_lt, grain_lt}
use Rattle.stream_ident.specs.SubName.{sub_lt}
use Rattle.stream_ident.specs.declared.ident.StreamId.{StreamId}
use Rattle.stream_ident.specs.declared.ident.GrainId.{GrainId}
use Rattle.stream_ident.specs.declared.ident.SubName.{SubName}
use Rattle.stream_ident.specs.declared.ident.SubName.TheVariants.{Explicit, Implicit}
use Rattle.stream_ident.specs.contracts.ident.SubNamePartialOrd.TheImpl as sub_order
use Rattle.stream_ident.specs.contracts.ident.GrainIdPartialOrd.TheImpl as grain_order
use Rattle.stream_ident.specs.contracts.ident.StreamIdPartialOrd.TheImpl as stream_order

then_lt : (first : Ordering) (later : Option Ordering) → is_some_and is_lt (partial_ordering_then (Some first) later) ≡ (is_lt first || (is_eq first && is_some_and is_lt later))
then_lt Less later = refl
then_lt Equal later = refl
then_lt Greater later = refl

-- two values that begin with a name come in the order of these names, and then in that of what follows
name_then_lt : (a b : List ℕ) (later : Option Ordering) → is_some_and is_lt (partial_ordering_then (Some (slice_cmp nat_cmp a b)) later) ≡ (name_lt a b || (same_name a b && is_some_and is_lt later))
name_then_lt a b later =
    then_lt (slice_cmp nat_cmp a b) later ∙ ap (λ t. name_lt a b || (t && is_some_and is_lt later)) (sym (texts_ties a b))

number_lt : (m n : ℕ) → is_lt (nat_cmp m n) ≡ nat_lt m n
number_lt m n = grind (arith, nat_tests)

pub grain_before : (a b : GrainId) → is_some_and is_lt (grain_order.ghosts.partial_cmp a b) ≡ grain_lt a b
grain_before a b = name_then_lt a.kind b.kind (Some (slice_cmp nat_cmp a.key b.key))

pub stream_before : (a b : StreamId) → is_some_and is_lt (stream_order.ghosts.partial_cmp a b) ≡ stream_lt a b
stream_before a b = name_then_lt a.namespace b.namespace (Some (slice_cmp nat_cmp a.key b.key))

pub sub_before : (a b : SubName) → is_some_and is_lt (sub_order.ghosts.partial_cmp a b) ≡ sub_lt a b
sub_before (Explicit m) (Explicit n) = number_lt m n
sub_before (Explicit m) (Implicit kind stream) = refl
sub_before (Implicit kind stream) (Explicit n) = refl
sub_before (Implicit kind stream) (Implicit other_kind other_stream) =
    name_then_lt kind other_kind (stream_order.ghosts.partial_cmp stream other_stream)
    ∙ ap (λ later. name_lt kind other_kind || (same_name kind other_kind && later)) (stream_before stream other_stream)
