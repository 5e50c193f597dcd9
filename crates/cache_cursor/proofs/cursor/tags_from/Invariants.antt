use Rattle.cache_cursor.proofs.Prelude.{◌≡◌, length}
use Rattle.cache_cursor.specs.declared.cursor.TheConstants.{TAGS}
use Rattle.cache_cursor.proofs.SeekLemmas.{IsMarkedUpTo}
use Rattle.cache_cursor.proofs.cursor.tags_from.Given as goal

abbrev pub invariant-loop-position : goal.invariant-loop-position
invariant-loop-position l = (length l.marks ≡ TAGS) × IsMarkedUpTo l.cache l.from l.position l.marks
