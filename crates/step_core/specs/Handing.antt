-- An event is handed to the grain of a subscription.
use Rattle.std.specs.Prelude.{◌≡◌, suc, ◌<◌, Bool, true, Some, length, if◌then◌else◌}
use Rattle.stream_model.specs.Positions.{next_position}
use Rattle.consumer_grain.specs.declared.mailbox.Delivery.{Delivery}
use Rattle.consumer_grain.specs.Subscriptions.{advanced}
use Rattle.queue_cache.specs.Cache.{high}
use Rattle.subscription_table.specs.Table.{state_at, with_state}
use Rattle.step_core.specs.declared.parts.Parts.{Parts}
use Rattle.step_core.specs.PlainOf.{plain_of}
use Rattle.step_core.specs.Records.{record_of}

-- the subscription is open, and this is the next event of the cache that it is owed
pub record IsNext (parts : Parts) (d : Delivery) : Type 0 where
  pub numbered : d.sub < length parts.subs.registry.names
  pub is_open : (record_of parts d.sub).is_open ≡ true
  pub next : next_position (plain_of parts) (record_of parts d.sub) ≡ Some d.position
  pub cached : d.position < high parts.agent.cache

-- the cursor of the subscription is past the event, and where the grain wakes there is a rise more
abbrev pub sent : Parts → Delivery → Bool → Parts
sent parts d wakes =
    record parts {
      subs = with_state parts.subs d.sub (advanced d.position (state_at parts.subs d.sub));
      rises = if wakes then suc parts.rises else parts.rises;
    }
