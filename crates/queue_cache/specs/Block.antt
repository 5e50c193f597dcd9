-- What holds of the fields of a block.
use Rattle.std.specs.Prelude.{◌≡◌, ℕ, ◌≤◌, List, length, take}
use Rattle.stream_ident.specs.declared.event.Event.{Event}
use Rattle.stream_ident.specs.declared.limits.TheConstants.{BLOCK_EVENTS}
use Rattle.queue_mapper.specs.Place.{tags_of}

-- no more events than a block has places, room for as many, and their tags in their places
pub record IsBlock (events : List Event) (len room : ℕ) (tags : List ℕ) : Type 0 where
  pub counted : len ≡ length events
  pub bound : length events ≤ BLOCK_EVENTS
  pub roomy : BLOCK_EVENTS ≤ room
  pub places : length tags ≡ BLOCK_EVENTS
  pub tagged : take (length events) tags ≡ tags_of events
