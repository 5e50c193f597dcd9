-- Which operations may take memory.
use Rattle.std.specs.Prelude.{Bool, true, false, ◌&&◌, not, length, Option, Some, None, ◌==◌, nat_lt}
use Rattle.stream_ident.specs.declared.ident.SubName.{SubName}
use Rattle.stream_model.specs.declared.op.Op.{Op}
use Rattle.stream_model.specs.declared.op.Op.TheVariants.{Pull, Deliver}
use Rattle.stream_model.specs.declared.plain.PlainPartition.{PlainPartition}
use Rattle.stream_model.specs.declared.plain.Subscription.{Subscription}
use Rattle.stream_model.specs.Positions.{is_outstanding, sub_at}
use Rattle.stream_model.specs.Pulling.{pull}
use Rattle.stream_model.specs.Step.{step, takes_memory}

-- it has handled nothing, none of its events is on its way, and its cursor stands at its resume
abbrev pub is_untouched : PlainPartition → SubName → Option Subscription → Bool
is_untouched p s None = false
is_untouched p s (Some r) = (r.cursor == r.resume) && ((length r.handled == 0) && not (is_outstanding p s r))

-- a Pull makes subscriptions, a Deliver is of a subscription that is untouched
abbrev pub is_first : PlainPartition → Op → Bool
is_first p (Pull generation max_events) = nat_lt (length p.subs) (length (pull p generation max_events).0.subs)
is_first p (Deliver generation s) = is_untouched p s (sub_at p s)
is_first p _ = true

-- A step with a reply that takes memory, save a Pull that makes no subscription, and a Deliver unless its
-- subscription has nothing handled or on its way, and its cursor at its resume. All others, each refusal
-- among them, take none.
abbrev pub may_allocate : PlainPartition → Op → Bool
may_allocate p op = takes_memory (step p op).1 && is_first p op
