use Rattle.partition_reference.proofs.Prelude.{◌≡◌, rewound_where, Subscription}
use Rattle.stream_model.proofs.EachValue.{changed_front}
use Rattle.partition_reference.proofs.moving.rewind_open.Given as goal

abbrev pub invariant-loop-place : goal.invariant-loop-place
invariant-loop-place l =
    l.subs ≡ changed_front (λ (r : Subscription). rewound_where r.is_open r) l.place l.initial.subs
