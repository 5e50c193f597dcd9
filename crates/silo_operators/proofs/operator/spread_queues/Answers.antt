use Rattle.silo_operators.proofs.Prelude.{goes-length, goes-refl, List, ℕ, ap, length, sym, ◌∙◌}
use Rattle.silo_operators.proofs.Changing.{seen-refl}
use Rattle.silo_operators.proofs.operator.spread_queues.Goals as goal

pub returns-in-Err-NoSilo-clause-on : goal.returns-in-Err-NoSilo-clause-on
returns-in-Err-NoSilo-clause-on g c = goes-refl c.args.lines.now.items

pub returns-in-Err-Memory-clause-on : goal.returns-in-Err-Memory-clause-on
returns-in-Err-Memory-clause-on g c = goes-refl c.args.lines.now.items

pub returns-in_err-spread-clause-assigned : goal.returns-in_err-spread-clause-assigned
returns-in_err-spread-clause-assigned g c = c.requires.assigned ∙ sym (goes-length c.args.lines.now.items c.spread.new.lines.items c.spread.ensures.on)

pub returns-clause-assigned : goal.returns-clause-assigned
returns-clause-assigned g c =
    ap (λ (xs : List ℕ). length xs) c.into_vec-new.ensures ∙ c.in-Ok.ensures.balanced.whole ∙ ap (λ (xs : List ℕ). length xs) c.as_slice.ensures.value ∙ c.requires.assigned ∙ sym (goes-length c.args.lines.now.items c.spread.new.lines.items c.spread.ensures.on)

pub returns-in-Err-NoSilo-clause-seen : goal.returns-in-Err-NoSilo-clause-seen
returns-in-Err-NoSilo-clause-seen g c = seen-refl c.args.lines.now.items

pub returns-in-Err-Memory-clause-seen : goal.returns-in-Err-Memory-clause-seen
returns-in-Err-Memory-clause-seen g c = seen-refl c.args.lines.now.items
