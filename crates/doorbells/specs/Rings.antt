-- Answers after which a loop may find more to do.
use Rattle.std.specs.Prelude.{Bool, true, false}
use Rattle.stream_model.specs.Replies.{Reply}
use Rattle.stream_model.specs.declared.reply.Reply.TheVariants as reply
use Rattle.activation_directory.specs.declared.reply.DirectoryReply.{DirectoryReply}
use Rattle.activation_directory.specs.declared.reply.DirectoryReply.TheVariants as directory

-- answers of a queue after which a loop may find more to do
abbrev pub rings : Reply → Bool
rings (reply.Published seq) = true
rings (reply.Subscribed number) = true
rings (reply.Unsubscribed handled) = true
rings (reply.RuleAdded from) = true
rings (reply.Pulled count low high) = true
rings (reply.Delivered token) = true
rings reply.Rewound = true
rings reply.Acked = true
rings (reply.Committed sub token) = true
rings (reply.Dropped sub token) = true
rings (reply.Deactivated lost) = true
rings (reply.Moved generation low) = true
rings _ = false

-- answers of the directory after which a loop may find more to do
abbrev pub directory_rings : DirectoryReply → Bool
directory_rings directory.Left = true
directory_rings _ = false
