use Rattle.subscription_table.proofs.Prelude.{numbers_below, open_leaf, pushed, PlainResumes, IsFirstPast, ◌≡◌, ◌<◌, ◌≤◌, ◌+◌, ◌-◌, ◌∙◌, ◌++◌, ℕ, List, Some, get_or, length, take, drop, ap, sym, subst, arith, append-nil, length_push, length-take-le, slice_get-get_or, slice_get, sub_lt, SubName}
use Rattle.ranked_index.specs.Listed.{AreRising}
use Rattle.ranked_index.proofs.BelowLemmas.{below-all, below-insert}
use Rattle.subscription_table.specs.Rows.{new_leaves, AreNamed}
use Rattle.subscription_table.specs.Standing.{name_of}
use Rattle.subscription_table.specs.Table.{no_entry}
use Rattle.subscription_table.proofs.LeafLemmas.{Entry}
use Rattle.subscription_table.proofs.RowLemmas.{named-more, rising-named, row-more}
use Rattle.subscription_table.proofs.table.push_leaves.Goals as goal

pub loop-number-init : goal.loop-number-init
loop-number-init c =
    let old = c.args.resumes.now in
    let len = c.len-len.result in
    let of = c.len-len.ensures in
    let none : len - len ≡ 0 = omega arith in
    record {
      rows = sym (ap (λ (n : ℕ). old.leaves ++ new_leaves c.args.position (take n (drop len c.args.registry.now.names))) none ∙ append-nil old.leaves);
      order = below-all len old.order of.ranking (omega (arith, of.len, of.order));
      long = sym of.len;
      named = c.requires.named;
    }

pub first_past-rank-requires : goal.first_past-rank-requires
first_past-rank-requires c =
    let names = c.args.registry.now.names in
    subst (λ (order : List ℕ). AreRising name_of sub_lt names order) (sym c.numbers.ensures.numbers) (rising-named c.loop-number.resumes names c.loop-number.invariant.named)

pub loop-number-preserved : goal.loop-number-preserved
loop-number-preserved c =
    let r = c.loop-number.resumes in
    let is = c.loop-number.invariant in
    let names = c.args.registry.now.names in
    let number = c.loop-number.number in
    let entry : Entry = get_or names number no_entry in
    let within : number < length names = omega (arith, c.loop-number-test.true, c.len-number-end.ensures.len) in
    let at = slice_get-get_or names number no_entry within in
    let position = c.args.position in
    let len = c.len-len.result in
    let rank = c.first_past-rank.result in
    let pushes : c.push.new.self ≡ pushed rank (open_leaf position) r = c.in_default.ensures in
    let first = subst (λ (order : List ℕ). IsFirstPast name_of sub_lt (Some entry.0) names order rank) c.numbers.ensures.numbers (subst (λ (s : SubName). IsFirstPast name_of sub_lt (Some s) names c.numbers.result.now rank) c.name.ensures c.first_past-rank.ensures) in
    let there : slice_get names (length r.leaves) ≡ Some entry = ap (slice_get names) is.long ∙ at in
    let reached : len ≤ length r.order = omega (arith, is.long, is.named.ranked.long, length-take-le (length r.leaves) names is.named.within, c.loop-number.auto.number) in
    record {
      rows = row-more (λ (entry : Entry). open_leaf position) c.args.resumes.now.leaves r.leaves c.push.new.self.leaves names len number entry c.loop-number.auto.number at is.rows (ap (λ (r : PlainResumes). r.leaves) pushes);
      order = ap (λ (r : PlainResumes). numbers_below len r.order) pushes ∙ below-insert len rank (length r.order) r.order reached ∙ is.order;
      long = ap (λ (r : PlainResumes). length r.leaves) pushes ∙ length_push r.leaves (open_leaf position) ∙ ap (λ (n : ℕ). n + 1) is.long;
      named = subst (λ (r : PlainResumes). AreNamed r names) (sym pushes) (named-more r names is.named entry position rank there c.len-number-end.ensures.unique first);
    }
