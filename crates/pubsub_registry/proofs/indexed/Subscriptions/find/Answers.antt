use Rattle.pubsub_registry.proofs.Prelude.{◌≡◌, ◌∙◌, ◌<◌, Bool, None, length, is_some, sym, ap, subst, length-map, keys_of, position, IfSome}
use Rattle.stream_ident.proofs.FirstLemmas.{position-key}
use Rattle.pubsub_registry.specs.Packed.{entry_by, ids_in, same_key}
use Rattle.pubsub_registry.specs.declared.packed.Key.{Key}
use Rattle.pubsub_registry.proofs.Entries.{place_in, placed-valued}
use Rattle.pubsub_registry.proofs.PackedLemmas.{key_equal-is, nowhere-by, place-by}
use Rattle.pubsub_registry.proofs.indexed.Subscriptions.find.Goals as goal

pub returns-in_default : goal.returns-in_default
returns-in_default c =
    let sub = c.args.sub.now in
    let place : None ≡ place_in sub c.args.self.now =
    nowhere-by (ids_in c.self.inside.by_stream c.self.inside.grains) sub c.in_default.ensures.none 0 c.self.inside.rows.entries c.self.invariant.within ∙ ap (place_in sub) c.self.view_is in
    record { place = place; within = tt; found = ap is_some place ∙ placed-valued sub c.args.self.now }

pub returns : goal.returns
returns c =
    let ids = ids_in c.self.inside.by_stream c.self.inside.grains in
    let rows = c.self.inside.rows.entries in
    let sub = c.args.sub.now in
    let key = c.in-Some.key in
    let is = c.self.invariant in
    let place : c.get_index_of.result ≡ place_in sub c.args.self.now =
    subst (λ (same : Key → Key → Bool). c.get_index_of.result ≡ position (same key) (keys_of rows)) key_equal-is c.get_index_of.ensures.index
    ∙ position-key (same_key key) rows
    ∙ place-by ids is.streams_apart is.grains_apart sub key c.in-Some.ensures.some.0 c.in-Some.ensures.some.1 0 rows is.within
    ∙ ap (place_in sub) c.self.view_is in
    record {
      place = place;
      within = subst (λ n. IfSome c.get_index_of.result (λ i. i < n)) (sym (length-map rows (entry_by ids)) ∙ ap length c.self.view_is) c.get_index_of.ensures.within;
      found = ap is_some place ∙ placed-valued sub c.args.self.now;
    }
