-- Figures of a queue and of a subscription.
use Rattle.std.specs.Prelude.{ℕ, ◌-◌, ◌*◌, Option, Some, None, length, if◌then◌else◌}
use Rattle.std.specs.Option.{option_map}
use Rattle.stream_ident.specs.declared.ident.SubName.{SubName}
use Rattle.stream_ident.specs.declared.limits.TheConstants.{BLOCK_EVENTS}
use Rattle.stream_model.specs.declared.op.Op.TheVariants.{Pull}
use Rattle.stream_model.specs.declared.plain.PlainPartition.{PlainPartition}
use Rattle.stream_model.specs.declared.plain.Subscription.{Subscription}
use Rattle.stream_model.specs.declared.reply.Reply.TheVariants as reply
use Rattle.stream_model.specs.Draining.{last_handled}
use Rattle.stream_model.specs.Positions.{sub_at}
use Rattle.stream_model.specs.Replies.{Reply}
use Rattle.stream_model.specs.Step.{step}
use Rattle.step_core.specs.declared.figures.QueueFigures.{QueueFigures}
use Rattle.step_core.specs.declared.figures.SubscriptionFigures.{SubscriptionFigures}

-- the subscription that a reply names as the one that the cache waits for
abbrev pub presser : Reply → Option SubName
presser (reply.Pressed s) = Some s
presser _ = None

-- the name in `Pressed`, where a pull of one event is answered so
abbrev pub pressed_by : PlainPartition → Option SubName
pressed_by p = presser (step p (Pull p.generation 1)).1

-- the figures of a queue
abbrev pub figures_of : PlainPartition → QueueFigures
figures_of p =
    record {
      events = length p.log;
      batches = p.batches;
      low = p.low;
      high = p.high;
      places = BLOCK_EVENTS * p.blocks;
      pressed_by = pressed_by p;
      subscriptions = length p.subs;
      rises = p.rises;
      generation = p.generation;
      silo = p.silo;
      limits = p.limits;
    }

-- the positions of the log from its resume on, none where it is closed
abbrev pub behind : PlainPartition → Subscription → ℕ
behind p r = if r.is_open then length p.log - r.resume else 0

abbrev pub figures_at : PlainPartition → Subscription → SubscriptionFigures
figures_at p r =
    record {
      stream = r.stream;
      grain = r.grain;
      start = r.start;
      is_open = r.is_open;
      handled = length r.handled;
      behind = behind p r;
      last = last_handled p (Some r);
    }

-- the figures of the subscription with a name, none where it has no record
abbrev pub subscription_figures_of : PlainPartition → SubName → Option SubscriptionFigures
subscription_figures_of p s = option_map (figures_at p) (sub_at p s)
