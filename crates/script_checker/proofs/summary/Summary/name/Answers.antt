use Rattle.script_checker.proofs.Prelude.{refl, sym, ◌∙◌}
use Rattle.indexmap.proofs.CallerLemmas.{insert_entry-new}
use Rattle.stream_ident.proofs.WordLemmas.{none_from_is_some}
use Rattle.stream_ident.specs.Name.{same_stream}
use Rattle.script_checker.proofs.summary.Summary.name.Goals as goal

pub returns-clause-ok : goal.returns-clause-ok
returns-clause-ok c =
    let gone = sym c.contains_key.ensures ∙ c.if-contains_key.false in
    let last = c.in_ok-insert.ensures.entries ∙ insert_entry-new same_stream c.self.inside.streams c.args.stream c.own_queue-queue.result (none_from_is_some _ gone) in
    rw (← c.self.view_is, gone, last, c.own_queue-queue.ensures) refl
