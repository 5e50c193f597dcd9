use Rattle.step_core.proofs.Prelude.{◌≡◌, ◌∙◌, Some, ap, sym, refl, is_some, option_map, sub_at, name_at, no_entry, no_state}
use Rattle.step_core.specs.PlainOf.{plain_of}
use Rattle.step_core.specs.Records.{record_of}
use Rattle.step_core.specs.Serving.{next_due}
use Rattle.step_core.proofs.DueNames.{fewer-past, least-found, least-nowhere, past-more}
use Rattle.step_core.proofs.PendingOps.{deliverable-is}
use Rattle.step_core.proofs.NamesOps.{record-of-number}
use Rattle.step_core.proofs.Shared.{distinct-of-unique, name-same}
use Rattle.step_core.proofs.looking.least_deliverable.Goals as goal

pub loop-number-init : goal.loop-number-init
loop-number-init c = (λ s r found is. refl, tt)

pub next_due-requires-clause-after : goal.next_due-requires-clause-after
next_due-requires-clause-after c = c.loop-number.invariant.1

pub returns-then-is_some : goal.returns-then-is_some
returns-then-is_some c =
    let parts = c.args.parts.now in
    let p = plain_of parts in
    let n = c.in-Some.number in
    let name = name_at parts.subs in
    let last = option_map name c.loop-number.last in
    let next : Some (name n) ≡ next_due p last = sym (ap (option_map name) c.in-Some.is) ∙ c.next_due.ensures.next in
    let found : sub_at p (name n) ≡ Some (record_of parts n) =
    ap (sub_at p) (sym (name-same parts.subs n)) ∙ record-of-number parts n no_entry no_state (distinct-of-unique parts.subs.registry.names c.requires.unique) (sym c.requires.records.long) c.in-Some.ensures.within in
    ap Some c.name.ensures ∙ least-found p last (name n) (record_of parts n) c.requires.reached c.loop-number.invariant.0 next found (deliverable-is p (record_of parts n) ∙ ap is_some (sym c.next_of.ensures) ∙ sym c.is_some.ensures ∙ c.if-is_some.true)

pub loop-number-smaller : goal.loop-number-smaller
loop-number-smaller c =
    let parts = c.args.parts.now in
    let name = name_at parts.subs in
    let last = option_map name c.loop-number.last in
    let next : Some (name c.in-Some.number) ≡ next_due (plain_of parts) last = sym (ap (option_map name) c.in-Some.is) ∙ c.next_due.ensures.next in
    fewer-past (plain_of parts) last (name c.in-Some.number) c.requires.reached next

pub loop-number-preserved : goal.loop-number-preserved
loop-number-preserved c =
    let parts = c.args.parts.now in
    let p = plain_of parts in
    let n = c.in-Some.number in
    let name = name_at parts.subs in
    let last = option_map name c.loop-number.last in
    let next : Some (name n) ≡ next_due p last = sym (ap (option_map name) c.in-Some.is) ∙ c.next_due.ensures.next in
    let found : sub_at p (name n) ≡ Some (record_of parts n) =
    ap (sub_at p) (sym (name-same parts.subs n)) ∙ record-of-number parts n no_entry no_state (distinct-of-unique parts.subs.registry.names c.requires.unique) (sym c.requires.records.long) c.in-Some.ensures.within in
    (past-more p last (name n) (record_of parts n) c.requires.reached c.loop-number.invariant.0 next found (deliverable-is p (record_of parts n) ∙ ap is_some (sym c.next_of.ensures) ∙ sym c.is_some.ensures ∙ c.if-is_some.false), c.in-Some.ensures.within)

pub returns : goal.returns
returns c =
    let parts = c.args.parts.now in
    let name = name_at parts.subs in
    least-nowhere (plain_of parts) (option_map name c.loop-number.last) c.requires.reached c.loop-number.invariant.0
    (sym (ap (option_map name) c.in_default.is) ∙ c.next_due.ensures.next)
