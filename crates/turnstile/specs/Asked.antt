-- What contracts see of a history that stores what was asked.
use Rattle.std.specs.Prelude.{List}
use Rattle.turnstile.specs.declared.asked.AskedHistory.{AskedHistory}
use Rattle.turnstile.specs.declared.history.Entry.{Entry}
use Rattle.turnstile.specs.Recorded.{recorded, answered}

-- each call that was asked, with the reply that its pass was given
abbrev pub asked_entries : {O R : Type 0} → AskedHistory O R → List (Entry O R)
asked_entries h = answered h.asked.items (recorded h.replies)
