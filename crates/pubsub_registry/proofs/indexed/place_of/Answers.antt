use Rattle.pubsub_registry.proofs.Prelude.{◌≡◌, ◌∙◌, ◌+◌, ◌-◌, ◌∷◌, true, false, get_or, drop, subst, sym, ap, arith, All-cons, All-same, get_or_from_slice_get, drop-read, sub_lt}
use Rattle.pubsub_registry.proofs.Ascending.{place-from}
use Rattle.pubsub_registry.proofs.indexed.place_of.Goals as goal

pub loop-at-preserved : goal.loop-at-preserved
loop-at-preserved c =
    let names = c.args.names.now in
    let s = c.args.sub.now in
    let name = c.at.result in
    let last = c.loop-at.at - 1 in
    let some = c.loop-at-test.true in
    let within = c.loop-at.invariant.0 in
    let same : last + 1 ≡ c.loop-at.at = omega arith in
    let cut : drop last names ≡ name ∷ drop c.loop-at.at names =
    drop-read names last name (omega arith) (sym (get_or_from_slice_get names last name name c.at.ensures)) ∙ ap (λ at. name ∷ drop at names) same in
    (omega arith, All-same (λ b. sub_lt s b ≡ true) (drop last names) _ cut (All-cons (λ b. sub_lt s b ≡ true) name (drop c.loop-at.at names) (sym c.is_before.ensures ∙ c.if-is_before.true) c.loop-at.invariant.1))

pub returns-else-is_before : goal.returns-else-is_before
returns-else-is_before c =
    let names = c.args.names.now in
    let s = c.args.sub.now in
    let last = c.loop-at.at - 1 in
    let some = c.loop-at-test.true in
    let within = c.loop-at.invariant.0 in
    let not_less = sym c.is_before.ensures ∙ c.if-is_before.false in
    place-from names s c.loop-at.at c.requires.ascending c.requires.new within c.loop-at.invariant.1
    (λ k is. let same : last ≡ k = omega arith in
    subst (λ at. sub_lt s (get_or names at s) ≡ false) same (ap (sub_lt s) (get_or_from_slice_get names last c.at.result s c.at.ensures) ∙ not_less))
