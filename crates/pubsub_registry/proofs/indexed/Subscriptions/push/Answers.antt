use Rattle.pubsub_registry.proofs.Prelude.{◌≡◌, ◌∙◌, ℕ, None, Contains, get_or, length, sym, ap, subst, arith, length-map, same_Some, keys_of, lookup, same_stream, same_sub}
use Rattle.std.proofs.lemmas.Result.{on_err_weaker, on_ok_weaker}
use Rattle.stream_ident.specs.declared.ident.SubName.TheVariants as name
use Rattle.pubsub_registry.specs.Ascending.{IsAscending, IsPlaceOf}
use Rattle.pubsub_registry.specs.Packed.{ids_in}
use Rattle.pubsub_registry.specs.Rows.{row_of}
use Rattle.pubsub_registry.proofs.Entries.{Names}
use Rattle.pubsub_registry.proofs.IndexLemmas.{indexed-row}
use Rattle.pubsub_registry.proofs.PackedLemmas.{absent-key, if-either, if-err, key-made, packed-push, packed-same}
use Rattle.pubsub_registry.proofs.SubsLemmas.{not-among, numbers-within}
use Rattle.pubsub_registry.proofs.indexed.Subscriptions.push.Goals as goal

pub new-requires : goal.new-requires
new-requires c =
    let stream = c.args.registration.now.stream in
    numbers-within _ stream c.row-numbers.result.now (indexed-row _ _ _ stream c.row-numbers.result.now c.self.invariant.indexed (sym c.self.view_is) c.row-numbers.ensures)

pub place_of-at-requires-clause-ascending : goal.place_of-at-requires-clause-ascending
place_of-at-requires-clause-ascending c =
    let row = indexed-row _ _ _ c.args.registration.now.stream c.row-numbers.result.now c.self.invariant.indexed (sym c.self.view_is) c.row-numbers.ensures in
    subst IsAscending (sym c.new.ensures) row.ascending

pub place_of-at-requires-clause-new : goal.place_of-at-requires-clause-new
place_of-at-requires-clause-new c = λ there.
    let sub = c.args.sub.now in
    let row = indexed-row _ _ _ c.args.registration.now.stream c.row-numbers.result.now c.self.invariant.indexed (sym c.self.view_is) c.row-numbers.ensures in
    not-among c.args.self.now c.args.registration.now.stream c.row-numbers.result.now row sub c.requires.new (subst (λ names. Contains names sub) c.new.ensures there)

pub invariant_of-self : goal.invariant_of-self
invariant_of-self c = (c.row_for.ensures.packed _ c.self.invariant).0

pub returns-in_err-row-clause-err : goal.returns-in_err-row-clause-err
returns-in_err-row-clause-err c = if-err _ c.from_residual.result ((c.row_for.ensures.packed _ c.self.invariant).1 ∙ c.self.view_is)

pub put_row-requires-clause-new : goal.put_row-requires-clause-new
put_row-requires-clause-new c =
    let ids = ids_in c.row_for.new.by_stream c.row_for.new.grains in
    let rows = c.self.inside.rows.entries in
    let mid = c.row_for.ensures.packed rows c.self.invariant in
    let named = key-made ids c.args.sub.now c.args.registration.now c.key_of-key.result c.in_ok-row.row.grain c.in_ok-row.row.stream c.key_of-key.ensures c.requires.own c.in_ok-row.ensures.grain c.in_ok-row.ensures.stream in
    absent-key ids mid.0.streams_apart mid.0.grains_apart c.args.sub.now c.key_of-key.result named rows mid.0.within (subst (λ (names : Names). lookup (same_sub c.args.sub.now) names ≡ None) (sym (mid.1 ∙ c.self.view_is)) c.requires.new)

pub put_row-requires-clause-at : goal.put_row-requires-clause-at
put_row-requires-clause-at c = λ key at_key.
    let stream = c.args.registration.now.stream in
    let own : stream ≡ key = same_Some stream key (sym c.in_ok-row.ensures.stream ∙ at_key) in
    let numbers = ap length (c.row-numbers.ensures ∙ sym (c.row_for.ensures.rows stream) ∙ ap (row_of same_stream c.row_for.new.by_stream) own) in
    let name_of : ℕ → _ = λ n. get_or (keys_of c.args.self.now) n (name.Explicit 0) in
    omega (arith, c.place_of-at.ensures.within, ap length c.new.ensures, length-map c.row-numbers.result.now name_of, numbers)

pub invariant_of-self-2 : goal.invariant_of-self-2
invariant_of-self-2 c =
    let mid = c.row_for.ensures.packed c.self.inside.rows.entries c.self.invariant in
    let place = subst (λ names. IsPlaceOf names c.args.sub.now c.place_of-at.result) c.new.ensures c.place_of-at.ensures in
    if-either c.put_row.result c.put_row.ensures.ok c.put_row.ensures.err
    (λ puts. (packed-push c.row_for.new.by_stream c.put_row.new.by_stream c.row_for.new.grains c.self.inside.rows.entries c.put_row.new.rows.entries c.key_of-key.result c.in_ok-row.row c.args.sub.now c.args.registration.now c.place_of-at.result c.args.self.now c.row-numbers.result.now
    mid.0 (mid.1 ∙ c.self.view_is) c.key_of-key.ensures c.requires.own c.in_ok-row.ensures.grain c.in_ok-row.ensures.stream c.in_ok-row.ensures.own (c.row-numbers.ensures ∙ sym (c.row_for.ensures.rows c.args.registration.now.stream)) place puts).0)
    (λ keeps. (packed-same c.row_for.new.by_stream c.put_row.new.by_stream c.row_for.new.grains c.self.inside.rows.entries c.put_row.new.rows.entries mid.0 keeps).0)

pub returns-clause-ok : goal.returns-clause-ok
returns-clause-ok c =
    let mid = c.row_for.ensures.packed c.self.inside.rows.entries c.self.invariant in
    let place = subst (λ names. IsPlaceOf names c.args.sub.now c.place_of-at.result) c.new.ensures c.place_of-at.ensures in
    on_ok_weaker c.put_row.result
    (λ puts. (packed-push c.row_for.new.by_stream c.put_row.new.by_stream c.row_for.new.grains c.self.inside.rows.entries c.put_row.new.rows.entries c.key_of-key.result c.in_ok-row.row c.args.sub.now c.args.registration.now c.place_of-at.result c.args.self.now c.row-numbers.result.now
    mid.0 (mid.1 ∙ c.self.view_is) c.key_of-key.ensures c.requires.own c.in_ok-row.ensures.grain c.in_ok-row.ensures.stream c.in_ok-row.ensures.own (c.row-numbers.ensures ∙ sym (c.row_for.ensures.rows c.args.registration.now.stream)) place puts).1)
    c.put_row.ensures.ok

pub returns-clause-err : goal.returns-clause-err
returns-clause-err c =
    let rows = c.self.inside.rows.entries in
    let mid = c.row_for.ensures.packed rows c.self.invariant in
    on_err_weaker c.put_row.result
    (λ keeps. (packed-same c.row_for.new.by_stream c.put_row.new.by_stream c.row_for.new.grains rows c.put_row.new.rows.entries mid.0 keeps).1 ∙ mid.1 ∙ c.self.view_is)
    c.put_row.ensures.err
