-- What holds of every table.
use Rattle.std.specs.Prelude.{◌≡◌, ℕ, ◌+◌, ◌^◌, ◌<◌, List, length, map}
use Rattle.stream_ident.specs.declared.ident.SubName.{SubName}
use Rattle.stream_ident.specs.SubName.{sub_lt}
use Rattle.queue_mapper.specs.Place.{tag_of}
use Rattle.consumer_grain.specs.Subscriptions.{is_unacknowledged}
use Rattle.consumer_grain.specs.declared.sub_state.SubState.{SubState}
use Rattle.pubsub_registry.specs.declared.registration.Registration.{Registration}
use Rattle.ranked_index.specs.Leaves.{leaf_with, PlainResumes}
use Rattle.ranked_index.specs.Ranked.{AreRanked}
use Rattle.ranked_index.specs.declared.resumes.Leaf.{Leaf}
use Rattle.subscription_table.specs.LeavesOf.{open_resume}
use Rattle.subscription_table.specs.Table.{PlainTable, registration_at, state_at}

-- Each name has a state that agrees with its registration, and its positions leave room for two more.
pub record AreRecords (t : PlainTable) : Type 0 where
  pub long : length t.states ≡ length t.registry.names
  pub starts : (i : ℕ) → i < length t.states → (state_at t i).start ≡ (registration_at t i).start
  pub openness : (i : ℕ) → i < length t.states → (state_at t i).live ≡ (registration_at t i).is_open
  pub cursors : (i : ℕ) → i < length t.states → (state_at t i).cursor + 2 < 2 ^ 64
  pub resumes : (i : ℕ) → i < length t.states → (state_at t i).resume + 2 < 2 ^ 64

-- the tag of each stream
abbrev pub tags_of : List (SubName × Registration) → List ℕ
tags_of names = map (λ entry. tag_of entry.1.stream) names

-- the name of an entry
abbrev pub name_of : SubName × Registration → SubName
name_of entry = entry.0

-- what is kept of a state beside it
abbrev pub kept_of : SubState → Leaf
kept_of state = leaf_with (open_resume state.live state.resume) (is_unacknowledged state)

-- what is kept beside the records fits them
pub record IsTable (t : PlainTable) (tags : List ℕ) (resumes : PlainResumes) : Type 0 where
  pub records : AreRecords t
  pub tagged : tags ≡ tags_of t.registry.names
  pub leaved : resumes.leaves ≡ map kept_of t.states
  pub ranked : AreRanked name_of sub_lt t.registry.names resumes.order
