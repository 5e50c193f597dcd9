use Rattle.grain_table.proofs.Prelude.{◌≡◌, ◌∙◌, ap, sym, subst, [], length, true≢false, eqb-false, eqb-true, nil_from_length}
use Rattle.std.specs.Prelude.{eqb}
use Rattle.grain_table.specs.Grains.{AreIdle}
use Rattle.grain_table.specs.Table.{AreReady}
use Rattle.grain_table.proofs.ChangeLemmas.{idle-all, idle-ready, idle-running}
use Rattle.grain_table.proofs.table.GrainTable.is_idle.Goals as goal

pub returns-then-is_empty : goal.returns-then-is_empty
returns-then-is_empty c =
    let t = c.self.inside in
    let none : t.ready.items ≡ [] = nil_from_length t.ready.items (ap length (sym c.as_slice-ready.ensures.value) ∙ eqb-true (length c.as_slice-ready.result.now) 0 (sym c.is_empty.ensures ∙ c.if-is_empty.true)) in (
      λ is. subst AreIdle c.self.view_is (idle-all t.entries.items (subst (AreReady t.entries.items) none c.self.invariant.kept.are_ready) (sym c.self.invariant.kept.counted ∙ eqb-true t.running 0 is)),
      λ idle. ap (λ n. eqb n 0) (c.self.invariant.kept.counted ∙ idle-running t.entries.items (subst AreIdle (sym c.self.view_is) idle)),
    )

pub returns-else-is_empty : goal.returns-else-is_empty
returns-else-is_empty c =
    let t = c.self.inside in (
      λ is. absurd (true≢false (sym is ∙ c.if-is_empty.false)),
      λ idle.
          let none = ap length c.as_slice-ready.ensures.value ∙ idle-ready t.entries.items t.ready.items c.self.invariant.kept.are_ready (subst AreIdle (sym c.self.view_is) idle) in
          absurd (eqb-false (length c.as_slice-ready.result.now) 0 (sym c.is_empty.ensures ∙ c.if-is_empty.false) none),
    )
