-- The rows of states and leaves beside the names, and what is written into them.
use Rattle.std.specs.Prelude.{◌≡◌, ℕ, ◌<◌, ◌≤◌, List, ◌++◌, length, get_or, map, take, drop, if◌then◌else◌}
use Rattle.stream_ident.specs.declared.ident.SubName.{SubName}
use Rattle.stream_ident.specs.SubName.{sub_lt}
use Rattle.consumer_grain.specs.declared.sub_state.SubState.{SubState}
use Rattle.pubsub_registry.specs.declared.registration.Registration.{Registration}
use Rattle.ranked_index.specs.Leaves.{open_leaf, PlainResumes}
use Rattle.ranked_index.specs.Ranked.{AreRanked}
use Rattle.ranked_index.specs.declared.resumes.Leaf.{Leaf}
use Rattle.subscription_table.specs.Standing.{name_of}
use Rattle.subscription_table.specs.Table.{is_in, no_state, rewound_open}

-- the leaves of subscriptions that have handled nothing
abbrev pub new_leaves : ℕ → List (SubName × Registration) → List Leaf
new_leaves position entries = map (λ entry. open_leaf position) entries

-- the order ranks the first names, of which each has a leaf
pub record AreNamed (resumes : PlainResumes) (names : List (SubName × Registration)) : Type 0 where
  pub within : length resumes.leaves ≤ length names
  pub ranked : AreRanked name_of sub_lt (take (length resumes.leaves) names) resumes.order

-- the same with the leaves of all names
pub record AreAllNamed (position : ℕ) (old new : PlainResumes) (names : List (SubName × Registration)) : Type 0 where
  pub leaves : new.leaves ≡ old.leaves ++ new_leaves position (drop (length old.leaves) names)
  pub ranked : AreRanked name_of sub_lt names new.order

-- the cursors of those with these numbers are back at their resumes, where they are open
pub record AreRewoundAt (numbers : List ℕ) (old new : List SubState) : Type 0 where
  pub long : length new ≡ length old
  pub each : (i : ℕ) → i < length old
      → get_or new i no_state ≡ (if is_in numbers i then rewound_open (get_or old i no_state) else get_or old i no_state)
