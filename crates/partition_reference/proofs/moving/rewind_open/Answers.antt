use Rattle.partition_reference.proofs.Prelude.{◌≡◌, ◌∙◌, ap, length, arith, rewound_where, Subscription}
use Rattle.stream_model.proofs.EachValue.{length-changed_front, changed_front-more, changed_front-all}
use Rattle.partition_reference.proofs.moving.rewind_open.Goals as goal

abbrev rewound_open : Subscription → Subscription
rewound_open r = rewound_where r.is_open r

pub rewind_at-requires : goal.rewind_at-requires
rewind_at-requires c =
    omega (arith, ap length c.loop-place.invariant, length-changed_front rewound_open c.loop-place.place c.args.subs.now, ap length c.as_slice-place-end.ensures)

pub loop-place-preserved : goal.loop-place-preserved
loop-place-preserved c =
    c.rewind_at.ensures ∙ changed_front-more rewound_open c.loop-place.place c.args.subs.now c.loop-place.subs c.loop-place.invariant

pub returns : goal.returns
returns c =
    let all : c.loop-place.place ≡ length c.args.subs.now = omega (arith, ap length c.as_slice-place-end.ensures) in
    c.loop-place.invariant ∙ changed_front-all rewound_open c.loop-place.place c.args.subs.now all
