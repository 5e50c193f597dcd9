-- Numbers doubled so many times.
use Rattle.ranked_index.proofs.Prelude.{◌≡◌, ℕ, zero, suc, ◌+◌, ◌<◌, ◌≤◌, refl, sym, ap, ◌∙◌, arith}
use Rattle.ranked_index.specs.Tree.{doubled, IsPowerOfTwo}

pub doubled-twice : (t x : ℕ) → doubled t (x + x) ≡ doubled t x + doubled t x
doubled-twice zero x = refl
doubled-twice (suc t) x = doubled-twice t (x + x)

pub doubled-ge : (t x : ℕ) → x ≤ doubled t x
doubled-ge zero x = omega arith
doubled-ge (suc t) x = omega (arith, doubled-ge t (x + x))

pub doubled-le : (t x y : ℕ) → x ≤ y → doubled t x ≤ doubled t y
doubled-le zero x y le = le
doubled-le (suc t) x y le = doubled-le t (x + x) (y + y) (omega arith)

pub doubled-lt : (t x : ℕ) → doubled t x < doubled t (x + 1)
doubled-lt zero x = omega arith
doubled-lt (suc t) x =
    omega (arith, doubled-lt t (x + x), doubled-le t (x + x + 1) (x + 1 + (x + 1)) (omega arith))

-- the children of the next node begin where those of this one end
pub doubled-next : (t at : ℕ) → doubled (suc t) (at + 1) ≡ doubled t (at + at + 1 + 1)
doubled-next t at =
    let next : at + 1 + (at + 1) ≡ at + at + 1 + 1 = omega arith in ap (doubled t) next

-- half of a power of two
pub record IsHalved (n : ℕ) : Type 0 where
  pub half : ℕ
  pub twice : half + half ≡ n
  pub power : IsPowerOfTwo half

halved : (exponent n : ℕ) → doubled exponent 1 ≡ n → 1 < n → IsHalved n
halved zero n is more = absurd (omega arith)
halved (suc exponent) n is more = record {
  half = doubled exponent 1;
  twice = sym (doubled-twice exponent 1) ∙ is;
  power = record { exponent = exponent; is = refl };
}

pub halved_power : (n : ℕ) → IsPowerOfTwo n → 1 < n → IsHalved n
halved_power n power more = halved power.exponent n power.is more

-- the tree with twice the leaves, or with the first
pub power_of-first : IsPowerOfTwo (1 + 1)
power_of-first = record { exponent = 1; is = refl }

pub power_of-twice : (n twice : ℕ) → IsPowerOfTwo n → twice ≡ n + n → IsPowerOfTwo twice
power_of-twice n twice power is = record {
  exponent = suc power.exponent;
  is = doubled-twice power.exponent 1 ∙ omega (arith, power.is);
}
