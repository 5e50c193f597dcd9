-- Marks of the places that hold a tag, and the places that they let a search pass over.
use Rattle.std.proofs.Common.{◌≡◌, ◌↔◌, ℕ, ◌+◌, ◌-◌, ◌*◌, ◌/◌, ◌%◌, ◌^◌, ◌<◌, ◌≤◌, List, Bool, true, false, cond, eqb, length, get_or, map, refl, sym, ap, subst, ◌∙◌, arith, ⊎_elim, bit_or, shr-shr, w64}
use Rattle.std.specs.Int.{bit_at, trailing_zeros}
use Rattle.std.specs.Int.Bits.{or_add_and}
use Rattle.std.proofs.lemmas.Nat.{and_le_l, and_le_r}
use Rattle.std.specs.Simd.Lanes.{chunk, mask_l}
use Rattle.std.proofs.lemmas.Simd.{bit_mask_l, get_or-chunk, length-chunk}
use Rattle.std.proofs.lemmas.Bool.{cases_lt, eq-eqb, eqb-true}
use Rattle.std.proofs.lemmas.List.{get_or-map, length-map}
use Rattle.std.proofs.lemmas.Nat.Bits.{bit_at-zero, bit_at-trailing_zeros, bit_at_above, bit_at_cat_high, bit_at_cat_low, bit_at_or}
use Rattle.std.proofs.Math.ListN.{get_or-eq_default}
use Rattle.tag_scan.specs.Tags.{IsAbsentBetween, IsFirstFrom}

-- bit i is set exactly where place start + i, of the `count` from start on, holds the tag
abbrev pub Marks : List ℕ → ℕ → ℕ → ℕ → ℕ → Type 0
Marks tags start count tag marks = (i : ℕ) → (bit_at marks i ≡ 1) ↔ ((i < count) × (get_or tags (start + i) 0 ≡ tag))

or_ge_left : (a b : ℕ) → a ≤ bit_or a b
or_ge_left a b = omega (arith, or_add_and a b, and_le_r a b)

or_ge_right : (a b : ℕ) → b ≤ bit_or a b
or_ge_right a b = omega (arith, or_add_and a b, and_le_l a b)

one_is_true : (b : Bool) → cond {A = ℕ} b 1 0 ≡ 1 → b ≡ true
one_is_true true h = refl
one_is_true false h = absurd (omega arith)

-- the marks that a comparison of 32 tags leaves
pub Marks-mask_l : (tags : List ℕ) (start tag : ℕ) → start + 32 ≤ length tags
    → Marks tags start 32 tag (mask_l (map (λ other. eqb other tag) (chunk start 32 tags)))
Marks-mask_l tags start tag room i =
    let same = λ (other : ℕ). eqb other tag in
    let xs = chunk start 32 tags in
    let bit = bit_mask_l (map same xs) i in
    let long : length xs ≡ 32 = length-chunk start 32 tags room in
    ⊎_elim
    (λ low.
    let e : bit_at (mask_l (map same xs)) i ≡ cond (same (get_or tags (start + i) 0)) 1 0 =
    bit ∙ ap (λ b. cond b 1 0) (get_or-map same xs i 0 false (omega arith) ∙ ap same (get_or-chunk start 32 tags i 0 low)) in (
      λ h. (low, eqb-true _ _ (one_is_true _ (sym e ∙ h))),
      λ h. e ∙ ap (λ b. cond b 1 0) (eq-eqb _ _ h.1),
    ))
    (λ high.
    let e : bit_at (mask_l (map same xs)) i ≡ 0 =
    bit ∙ ap (λ b. cond b 1 0) (get_or-eq_default (map same xs) false (omega (arith, length-map xs same))) in
    (λ h. absurd (omega arith), λ h. absurd (omega arith)))
    (cases_lt i 32)

-- the marks of the last places alone
pub Marks-shr : (tags : List ℕ) (start count tag marks by : ℕ) → by ≤ count
    → Marks tags start count tag marks → Marks tags (start + by) (count - by) tag (marks / 2 ^ by)
Marks-shr tags start count tag marks by within h i =
    let e : bit_at (marks / 2 ^ by) i ≡ bit_at marks (by + i) = ap (λ x. x % 2) (shr-shr marks by i) in
    let at : start + (by + i) ≡ start + by + i = omega arith in
    let same : get_or tags (start + (by + i)) 0 ≡ get_or tags (start + by + i) 0 = ap (λ k. get_or tags k 0) at in (
      λ set. let f = (h (by + i)).0 (sym e ∙ set) in (omega (arith, f.0), sym same ∙ f.1),
      λ f. e ∙ (h (by + i)).1 (omega (arith, f.0), same ∙ f.1),
    )

-- the marks of the places from `from` on, out of those of the last 32
pub Marks-last : (tags : List ℕ) (from tag marks : ℕ) → 32 ≤ length tags → from ≤ length tags → length tags < from + 32
    → Marks tags (length tags - 32) 32 tag marks
    → Marks tags from (length tags - from) tag (marks / 2 ^ (from - (length tags - 32)))
Marks-last tags from tag marks room within few h =
    let start = length tags - 32 in
    let by = from - start in
    let shifted = Marks-shr tags start 32 tag marks by (omega arith) h in
    let at : start + by ≡ from = omega arith in
    let left : 32 - by ≡ length tags - from = omega arith in
    subst (λ n. Marks tags from n tag (marks / 2 ^ by)) left (subst (λ k. Marks tags k (32 - by) tag (marks / 2 ^ by)) at shifted)

-- no place under clear bits holds the tag
pub absent_under_clear : (tags : List ℕ) (start count tag marks n : ℕ) → n ≤ count
    → Marks tags start count tag marks → ((i : ℕ) → i < n → bit_at marks i ≡ 0) → IsAbsentBetween tags start (start + n) tag
absent_under_clear tags start count tag marks n within h clear place low high is =
    let at : place ≡ start + (place - start) = omega arith in
    let set = (h (place - start)).1 (omega arith, ap (λ k. get_or tags k 0) (sym at) ∙ is) in
    omega (arith, clear (place - start) (omega arith))

-- where nothing is marked
pub absent_unmarked : (tags : List ℕ) (start count tag marks : ℕ)
    → Marks tags start count tag marks → marks ≡ 0 → IsAbsentBetween tags start (start + count) tag
absent_unmarked tags start count tag marks h none =
    absent_under_clear tags start count tag marks count (omega arith) h (λ i _. ap (λ m. bit_at m i) none ∙ bit_at-zero i)

-- one stretch after another
pub absent_then : (tags : List ℕ) (from middle end tag : ℕ)
    → IsAbsentBetween tags from middle tag → IsAbsentBetween tags middle end tag → IsAbsentBetween tags from end tag
absent_then tags from middle end tag front back place low high =
    ⊎_elim (λ l. front place low l) (λ l. back place l high) (cases_lt place middle)

-- up to an end that is written another way
pub absent_to : (tags : List ℕ) (from end last tag : ℕ) → end ≡ last → IsAbsentBetween tags from end tag → IsAbsentBetween tags from last tag
absent_to tags from end last tag same h = subst (λ k. IsAbsentBetween tags from k tag) same h

-- four masks of 32 places, one after another, of which none has a mark
pub absent_in_four : (tags : List ℕ) (start tag first second third last : ℕ)
    → Marks tags start 32 tag first → Marks tags (start + 32) 32 tag second → Marks tags (start + 64) 32 tag third → Marks tags (start + 96) 32 tag last
    → bit_or (bit_or (bit_or first second) third) last ≡ 0 → IsAbsentBetween tags start (start + 128) tag
absent_in_four tags start tag first second third last a b c d none =
    let low = bit_or first second in
    let three = bit_or low third in
    let no_last : last ≡ 0 = omega (arith, or_ge_right three last) in
    let no_third : third ≡ 0 = omega (arith, or_ge_left three last, or_ge_right low third) in
    let no_low : low ≡ 0 = omega (arith, or_ge_left three last, or_ge_left low third) in
    let no_first : first ≡ 0 = omega (arith, or_ge_left first second) in
    let no_second : second ≡ 0 = omega (arith, or_ge_right first second) in
    let front = absent_unmarked tags start 32 tag first a no_first in
    let more = absent_then tags start (start + 32) (start + 32 + 32) tag front (absent_unmarked tags (start + 32) 32 tag second b no_second) in
    let at_third : start + 32 + 32 ≡ start + 64 = omega arith in
    let half = absent_to tags start (start + 32 + 32) (start + 64) tag at_third more in
    let longer = absent_then tags start (start + 64) (start + 64 + 32) tag half (absent_unmarked tags (start + 64) 32 tag third c no_third) in
    let at_last : start + 64 + 32 ≡ start + 96 = omega arith in
    let most = absent_to tags start (start + 64 + 32) (start + 96) tag at_last longer in
    let at_end : start + 96 + 32 ≡ start + 128 = omega arith in
    absent_to tags start (start + 96 + 32) (start + 128) tag at_end
    (absent_then tags start (start + 96) (start + 96 + 32) tag most (absent_unmarked tags (start + 96) 32 tag last d no_last))

-- the lowest mark is the first place
pub first_marked : (tags : List ℕ) (from start count tag marks : ℕ) → from ≤ start → start + count ≤ length tags → marks < 2 ^ 64 → 0 < marks
    → IsAbsentBetween tags from start tag → Marks tags start count tag marks
    → IsFirstFrom tags from tag (start + trailing_zeros w64 marks)
first_marked tags from start count tag marks ordered room small some before h =
    let lowest = bit_at-trailing_zeros w64 marks some small in
    let zeros = trailing_zeros w64 marks in
    let hit = (h zeros).0 lowest.1 in
    record {
      reached = omega arith;
      within = omega (arith, hit.0);
      found = hit.1;
      before = absent_then tags from start (start + zeros) tag before (absent_under_clear tags start count tag marks zeros (omega (arith, hit.0)) h lowest.2);
    }

-- two masks of 32 bits, side by side
pub bit_at_halves_low : (low high i : ℕ) → high < 2 ^ 32 → i < 32 → bit_at (bit_or low (high * 2 ^ 32 % 2 ^ 64)) i ≡ bit_at low i
bit_at_halves_low low high i small within =
    let whole : high * 2 ^ 32 % 2 ^ 64 ≡ high * 2 ^ 32 + 0 = omega arith in
    omega (arith, bit_at_or low (high * 2 ^ 32 % 2 ^ 64) i, ap (λ n. bit_at n i) whole, bit_at_cat_low high 32 0 i within, bit_at-zero i)

pub bit_at_halves_high : (low high i : ℕ) → low < 2 ^ 32 → high < 2 ^ 32 → 32 ≤ i → bit_at (bit_or low (high * 2 ^ 32 % 2 ^ 64)) i ≡ bit_at high (i - 32)
bit_at_halves_high low high i small_low small_high above =
    let whole : high * 2 ^ 32 % 2 ^ 64 ≡ high * 2 ^ 32 + 0 = omega arith in
    omega (arith, bit_at_or low (high * 2 ^ 32 % 2 ^ 64) i, ap (λ n. bit_at n i) whole, bit_at_cat_high high 32 0 i (omega arith) above, bit_at_above low 32 i small_low above)

-- the marks of 64 places, from those of their halves
pub Marks-halves : (tags : List ℕ) (tag low high : ℕ) → low < 2 ^ 32 → high < 2 ^ 32
    → Marks tags 0 32 tag low → Marks tags 32 32 tag high
    → (i : ℕ) → (bit_at (bit_or low (high * 2 ^ 32 % 2 ^ 64)) i ≡ 1) ↔ ((i < 64) × (get_or tags i 0 ≡ tag))
Marks-halves tags tag low high small_low small_high front back i =
    ⊎_elim
    (λ l.
    let e = bit_at_halves_low low high i small_high l in
    let at : 0 + i ≡ i = omega arith in
    let same : get_or tags (0 + i) 0 ≡ get_or tags i 0 = ap (λ k. get_or tags k 0) at in (
      λ set. (omega arith, sym same ∙ ((front i).0 (sym e ∙ set)).1),
      λ f. e ∙ (front i).1 (l, same ∙ f.1),
    ))
    (λ l.
    let e = bit_at_halves_high low high i small_low small_high l in
    let at : 32 + (i - 32) ≡ i = omega arith in
    let same : get_or tags (32 + (i - 32)) 0 ≡ get_or tags i 0 = ap (λ k. get_or tags k 0) at in (
      λ set. let f = (back (i - 32)).0 (sym e ∙ set) in (omega (arith, f.0), sym same ∙ f.1),
      λ f. e ∙ (back (i - 32)).1 (omega (arith, f.0), same ∙ f.1),
    ))
    (cases_lt i 32)
