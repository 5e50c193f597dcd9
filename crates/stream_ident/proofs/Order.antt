-- An order of names by two tests: what comes before what, and what is the same.
use Rattle.stream_ident.proofs.Prelude.{◌≡◌, ◌∙◌, ap, sym, Bool, true, false, Ordering, Less, arith, is_eq, is_lt, ordering_reverse}
use Rattle.std.specs.Cmp.{IsTotalOrder}

pub record IsOrder {N : Type 0} (lt same : N → N → Bool) : Type 0 where
  pub one_way : (a b : N) → lt a b ≡ true → lt b a ≡ false
  pub chain : (a b c : N) → lt a b ≡ true → lt b c ≡ true → lt a c ≡ true
  pub rest : (a b : N) → lt a b ≡ false → same a b ≡ false → lt b a ≡ true
  pub apart : (a b : N) → same a b ≡ true → (lt a b ≡ false) × (lt b a ≡ false)

is_less : (r : Ordering) → is_lt r ≡ true → r ≡ Less
is_less r less = grind arith

not_back : (r s : Ordering) → s ≡ ordering_reverse r → is_lt r ≡ true → is_lt s ≡ false
not_back r s is less = grind arith

else_back : (r s : Ordering) → s ≡ ordering_reverse r → is_lt r ≡ false → is_eq r ≡ false → is_lt s ≡ true
else_back r s is more other = grind arith

same_not : (r s : Ordering) → s ≡ ordering_reverse r → is_eq r ≡ true → (is_lt r ≡ false) × (is_lt s ≡ false)
same_not r s is same = (grind arith, grind arith)

-- the tests of a total order
pub order_of : {N : Type 0} (lt same : N → N → Bool) (cmp : N → N → Ordering) → IsTotalOrder cmp → ((a b : N) → is_lt (cmp a b) ≡ lt a b) → ((a b : N) → is_eq (cmp a b) ≡ same a b) → IsOrder lt same
order_of lt same cmp total lt_is same_is = record {
  one_way = λ a b less. sym (lt_is b a) ∙ not_back (cmp a b) (cmp b a) (total.antisymm b a) (lt_is a b ∙ less);
  chain = λ a b c less further.
      sym (lt_is a c) ∙ ap is_lt (total.trans a b c (is_less (cmp a b) (lt_is a b ∙ less)) (is_less (cmp b c) (lt_is b c ∙ further)));
  rest = λ a b more other. sym (lt_is b a) ∙ else_back (cmp a b) (cmp b a) (total.antisymm b a) (lt_is a b ∙ more) (same_is a b ∙ other);
  apart = λ a b is.
      let neither = same_not (cmp a b) (cmp b a) (total.antisymm b a) (same_is a b ∙ is) in (sym (lt_is a b) ∙ neither.0, sym (lt_is b a) ∙ neither.1);
}
