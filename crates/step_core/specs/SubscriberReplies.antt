-- What subscribers are told, from what the table of subscriptions tells.
use Rattle.stream_model.specs.Replies.{Reply}
use Rattle.stream_model.specs.declared.reply.Reply.TheVariants as reply
use Rattle.pubsub_registry.specs.declared.told.Added.{Added}
use Rattle.pubsub_registry.specs.declared.told.Added.TheVariants as add_told

abbrev pub of_added : Added → Reply
of_added (add_told.Added number) = reply.Subscribed number
of_added add_told.TooMany = reply.TooMany
