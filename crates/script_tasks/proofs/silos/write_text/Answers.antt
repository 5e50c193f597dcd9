use Rattle.script_tasks.proofs.Prelude.{Appends-kept}
use Rattle.script_tasks.proofs.silos.write_text.Goals as goal

pub returns-in-Ok : goal.returns-in-Ok
returns-in-Ok g c = Appends-kept _ _ _ _ c.in_default.ensures.bytes c.flush.ensures.bytes
