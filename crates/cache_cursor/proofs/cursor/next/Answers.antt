use Rattle.cache_cursor.proofs.Prelude.{tag_of, ◌≡◌, ◌-◌, ap, refl, ◌∙◌, sym, arith, is_owed}
use Rattle.cache_cursor.proofs.SeekLemmas.{next_none, none_at_last}
use Rattle.cache_cursor.proofs.cursor.next.Goals as goal

pub returns-then-tag-clause-next : goal.returns-then-tag-clause-next
returns-then-tag-clause-next c =
    let cache = c.args.cache.now in
    next_none (λ event. is_owed c.args.stream.now c.args.start.now event) cache.events c.args.from cache.low cache.low refl
    (none_at_last c.args.stream.now c.args.start.now cache.events (c.args.from - cache.low)
    (omega (arith, c.high-high.ensures, c.if-high-from-eq1.true, c.requires.low))
    (λ same.
    let is : c.tag.result ≡ c.args.tag = c.tag.ensures ∙ ap (λ event. tag_of event.stream) c.get.ensures ∙ same ∙ sym c.requires.tag in
    absurd (omega (arith, c.if-tag.true, is))))
