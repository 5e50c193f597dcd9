use Rattle.pubsub_registry.proofs.Prelude.{◌∙◌, sym, ap, subst, keys_of}
use Rattle.pubsub_registry.specs.Index.{AreNumbersOf, names_at}
use Rattle.pubsub_registry.specs.Registry.{PlainRegistry, AreSubsOf}
use Rattle.pubsub_registry.proofs.Entries.{Names}
use Rattle.pubsub_registry.proofs.SubsLemmas.{numbers-within, subs-of}
use Rattle.pubsub_registry.proofs.registry.Registry.subs_of.Goals as goal

pub new-requires : goal.new-requires
new-requires c =
    numbers-within c.self.inside.subscriptions c.args.stream.now c.numbers_of-numbers.result.now c.numbers_of-numbers.ensures

pub returns : goal.returns
returns c =
    let r = c.args.self.now in
    let row = c.numbers_of-numbers.result.now in
    let same = ap (λ (r : PlainRegistry). r.names) c.self.view_is in
    let numbers = subst (λ (names : Names). AreNumbersOf names c.args.stream.now row) same c.numbers_of-numbers.ensures in
    subst (AreSubsOf r c.args.stream.now) (sym (c.new.ensures ∙ ap (λ (names : Names). names_at (keys_of names) row) same)) (subs-of r c.args.stream.now row numbers)
