use Rattle.step_core.proofs.Prelude.{◌≡◌, ◌∙◌, sym, refl, length}
use Rattle.step_core.specs.View.{subs_of}
use Rattle.step_core.proofs.ViewLemmas.{records-length}
use Rattle.step_core.proofs.figures.queue_figures.Goals as goal

pub returns : goal.returns
returns c =
    let t = c.args.parts.now.subs in
    let many : c.len-2.result ≡ length (subs_of t.registry.names t.states) = c.len-2.ensures.len ∙ sym (records-length t.registry.names t.states (sym c.requires.records.long)) in
    rw (c.len.ensures.count, c.batches.ensures.count, c.low.ensures, c.high.ensures, c.blocks-2.ensures, c.cache-cache.ensures, c.pressed_by.ensures, many, c.generation.ensures, c.silo.ensures) refl
