-- How far a subscription is.
use Rattle.std.specs.Prelude.{ℕ, suc, max, Bool, true, false, nat_lt, List, [], ◌++◌, if◌then◌else◌}
use Rattle.stream_ident.specs.declared.token.Token.{Token}
use Rattle.stream_ident.specs.Words.{past}
use Rattle.consumer_grain.specs.declared.sub_state.SubState.{SubState}

-- a subscription that has handled nothing
abbrev pub new_state : Token → ℕ → SubState
new_state start position = record { start = start; handled = []; note = 0; resume = position; cursor = position; live = true }

-- an event at or past the resume is handled, and so isn't acknowledged
abbrev pub is_unacknowledged : SubState → Bool
is_unacknowledged s = nat_lt s.resume (past s.handled)

-- a turn is handled, and its note kept
abbrev pub committed : List ℕ → ℕ → SubState → SubState
committed positions note s = record s { handled = s.handled ++ positions; note = note }

-- the cursor is past a delivered event
abbrev pub advanced : ℕ → SubState → SubState
advanced position s = record s { cursor = suc position }

-- the cursor is back at the resume
abbrev pub rewound : SubState → SubState
rewound s = record s { cursor = s.resume }

-- the cursor has seen all of the cache; with nothing outstanding the resume follows it
abbrev pub caught_up : ℕ → Bool → SubState → SubState
caught_up high outstanding s =
    record s { cursor = max s.cursor high; resume = if outstanding then s.resume else max s.cursor high }

-- events up to a position are acknowledged
abbrev pub acknowledged : ℕ → SubState → SubState
acknowledged position s =
    record s { resume = max s.resume (suc position); cursor = max s.cursor (max s.resume (suc position)) }

-- the subscription is unsubscribed
abbrev pub closed : SubState → SubState
closed s = record s { live = false }
