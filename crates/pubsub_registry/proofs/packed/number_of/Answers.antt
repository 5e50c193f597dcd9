use Rattle.pubsub_registry.proofs.Prelude.{insert_entry-new, ◌≡◌, ◌∙◌, ◌∷◌, [], Some, sym, subst, keys_of, none_from_is_some}
use Rattle.std.proofs.Common.{slice_get}
use Rattle.pubsub_registry.proofs.PackedLemmas.{grown-same, key-found, last-key}
use Rattle.pubsub_registry.proofs.packed.number_of.Goals as goal

pub returns-in-Some-clause-number : goal.returns-in-Some-clause-number
returns-in-Some-clause-number g c =
    key-found _ c.requires.equal (keys_of c.args.map.now.entries) c.args.key c.in-Some.number (sym c.in-Some.ensures.number)

pub returns-in_err-insert-clause-grown : goal.returns-in_err-insert-clause-grown
returns-in_err-insert-clause-grown g c =
    grown-same c.args.value c.args.map.now.entries c.insert.new.self.entries c.in_err-insert.ensures.err

pub returns-clause-number : goal.returns-clause-number
returns-clause-number g c =
    let added = c.in_ok-insert.ensures.entries ∙ insert_entry-new _ c.args.map.now c.args.key c.args.value (none_from_is_some _ (sym c.in_default.ensures.found)) in
    subst (λ n. slice_get (keys_of c.insert.new.self.entries) n ≡ Some c.args.key) (sym c.len-number.ensures.len)
    (last-key c.args.map.now.entries c.insert.new.self.entries c.args.key c.args.value added)

pub returns-clause-grown : goal.returns-clause-grown
returns-clause-grown g c =
    let added = c.in_ok-insert.ensures.entries ∙ insert_entry-new _ c.args.map.now c.args.key c.args.value (none_from_is_some _ (sym c.in_default.ensures.found)) in
    record { more = c.args.key ∷ []; is = added }
