use Rattle.partition_reference.proofs.Prelude.{◌≡◌, ◌++◌, ◌&&◌, drop, take, same_grain, each_value, rewound_where}
use Rattle.partition_reference.proofs.deactivating.rewind_in.Given as goal

abbrev pub invariant-loop-entry : goal.invariant-loop-entry
invariant-loop-entry l =
    l.subs ≡ each_value (λ r. rewound_where (same_grain l.id r.grain && r.is_open) r) (take l.entry-index l.initial.subs) ++ drop l.entry-index l.initial.subs
