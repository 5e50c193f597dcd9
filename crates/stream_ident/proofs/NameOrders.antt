-- The orders of the names of subscriptions and of grains are total.
use Rattle.stream_ident.proofs.Prelude.{◌≡◌, ◌∙◌, ap, sym, refl, Bool, is_lt, is_some_and}
use Rattle.stream_ident.specs.declared.ident.SubName.{SubName}
use Rattle.stream_ident.specs.declared.ident.SubName.TheVariants.{Explicit, Implicit}
use Rattle.stream_ident.specs.Name.{same_grain, grain_lt}
use Rattle.stream_ident.specs.SubName.{same_sub, sub_lt}
use Rattle.stream_ident.specs.contracts.ident.GrainIdOrd.TheImpl as grain_cmp
use Rattle.stream_ident.specs.contracts.ident.GrainIdOrd.TheImpl.Laws as grain_laws
use Rattle.stream_ident.specs.contracts.ident.SubNameOrd.TheImpl as sub_cmp
use Rattle.stream_ident.specs.contracts.ident.SubNameOrd.TheImpl.Laws as sub_laws
use Rattle.stream_ident.specs.contracts.ident.SubNamePartialEq.TheImpl as sub_equality
use Rattle.stream_ident.proofs.Order.{order_of, IsOrder}
use Rattle.stream_ident.proofs.OrderLemmas.{grain_before, sub_before}

pub grain_order : IsOrder grain_lt same_grain
grain_order =
    order_of grain_lt same_grain grain_cmp.ghosts.cmp grain_laws.total-law
    (λ a b. ap (is_some_and is_lt) (sym (grain_laws.matches_partial_cmp-law a b)) ∙ grain_before a b)
    (λ a b. sym (grain_laws.matches_eq-law a b))

-- what the names' `==` tests
abbrev pub sub_equal : SubName → SubName → Bool
sub_equal = sub_equality.ghosts.eq

pub sub_equal_at : (a b : SubName) → sub_equal a b ≡ same_sub a b
sub_equal_at (Explicit m) (Explicit n) = refl
sub_equal_at (Explicit m) (Implicit kind stream) = refl
sub_equal_at (Implicit kind stream) (Explicit n) = refl
sub_equal_at (Implicit kind stream) (Implicit other_kind other_stream) = refl

pub sub_equal-is : sub_equal ≡ same_sub
sub_equal-is = λ i a b. sub_equal_at a b i

pub sub_less_at : (a b : SubName) → is_lt (sub_cmp.ghosts.cmp a b) ≡ sub_lt a b
sub_less_at a b = ap (is_some_and is_lt) (sym (sub_laws.matches_partial_cmp-law a b)) ∙ sub_before a b

pub sub_order : IsOrder sub_lt same_sub
sub_order =
    order_of sub_lt same_sub sub_cmp.ghosts.cmp sub_laws.total-law sub_less_at
    (λ a b. sym (sub_laws.matches_eq-law a b) ∙ sub_equal_at a b)
