use Rattle.stream_script.proofs.Prelude.{◌≡◌, ◌++◌, take, flat_map, events_at}
use Rattle.stream_script.specs.Replies.{event_text}
use Rattle.stream_script.proofs.printer.text.push_events_at.Given as goal

-- the events so far
abbrev pub invariant-loop-position : goal.invariant-loop-position
invariant-loop-position l = l.out.items ≡ l.fn.out.items ++ flat_map event_text (events_at l.partition.log (take l.position-index l.positions))
