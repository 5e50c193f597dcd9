-- Whether a partition is quiet.
use Rattle.std.specs.Prelude.{Option, Some, None}
use Rattle.stream_model.specs.declared.reply.Pending.{Pending}
use Rattle.step_core.specs.declared.quiet.Quiet.{Quiet}
use Rattle.step_core.specs.declared.quiet.Quiet.TheVariants as quiet

-- what `quiet` answers by the first reason why the partition isn't quiet
abbrev pub quiet_by : Option Pending → Quiet
quiet_by None = quiet.Yes
quiet_by (Some why) = quiet.No why
