use Rattle.partition_reference.proofs.Prelude.{◌≡◌, length, take, subs_with}
use Rattle.partition_reference.proofs.pulling.push_implied.Given as goal

abbrev pub invariant-loop-event : goal.invariant-loop-event
invariant-loop-event l =
    record {
      all : l.subs.items ≡ subs_with l.rules l.position l.initial.subs.items (take l.event-index l.events);
      front : take (length l.initial.subs.items) l.subs.items ≡ l.initial.subs.items;
    }
