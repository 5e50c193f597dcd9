use Rattle.std.proofs.Common.{◌≡◌, ℕ, ◌^◌, ◌<◌, count_ones, eqb, length, map, sym, subst, ap, ◌∙◌, arith, w8}
use Rattle.std.specs.Simd.Lanes.{chunk, mask_l}
use Rattle.std.proofs.lemmas.Simd.{bitmask_splat, length-chunk, mask_l-lt, ones-mask_l}
use Rattle.std.proofs.lemmas.List.{length-map}
use Rattle.tag_scan.proofs.MarkLemmas.{Marks, Marks-mask_l}
use Rattle.tag_scan.proofs.mask_32.Goals as goal

pub returns : goal.returns
returns c =
    let same = λ (other : ℕ). eqb other c.args.tag in
    let xs = chunk c.args.start 32 c.args.tags.now in
    let long : length xs ≡ 32 = length-chunk c.args.start 32 c.args.tags.now c.requires in
    let e = bitmask_splat w8 eqb xs 32 c.args.tag long (omega arith) in
    let wide : length (map same xs) ≡ 32 = length-map xs same ∙ long in
    record {
      small = subst (λ m. m < 2 ^ 32) (sym e) (subst (λ n. mask_l (map same xs) < 2 ^ n) wide (mask_l-lt (map same xs)));
      marks = subst (λ m. Marks c.args.tags.now c.args.start 32 c.args.tag m) (sym e) (Marks-mask_l c.args.tags.now c.args.start c.args.tag c.requires);
      ones = ap count_ones e ∙ ones-mask_l same xs;
    }
