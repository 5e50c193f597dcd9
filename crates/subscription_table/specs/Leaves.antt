-- The slowest subscription, and the next one that is due, by what is told of each.
use Rattle.std.specs.Prelude.{ℕ, Bool, false, ◌&&◌, ◌||◌, List, map, filter, Option, Some, None, nat_lt, is_some}
use Rattle.stream_ident.specs.declared.ident.SubName.{SubName}
use Rattle.stream_ident.specs.SubName.{sub_lt}
use Rattle.stream_ident.specs.Words.{least, next_after, has_number}
use Rattle.ranked_index.specs.Keys.{least_key}

-- a subscription: its resume, none where it is closed, and whether it has something to acknowledge
pub record NamedLeaf : Type 0 where
  pub name : SubName
  pub resume : Option ℕ
  pub is_unacknowledged : Bool

-- the least resume of the open subscriptions, none where none is open
abbrev pub least_resume : List NamedLeaf → Option ℕ
least_resume leaves = least_key (map (λ (leaf : NamedLeaf). leaf.resume) leaves)

-- the names of those that pass
abbrev pub names_where : (NamedLeaf → Bool) → List NamedLeaf → List SubName
names_where passes leaves = map (λ (leaf : NamedLeaf). leaf.name) (filter passes leaves)

-- the least name of the open ones with this resume
abbrev pub slowest_at : Option ℕ → List NamedLeaf → Option SubName
slowest_at None leaves = None
slowest_at (Some resume) leaves = least sub_lt (names_where (λ leaf. has_number resume leaf.resume) leaves)

-- the least name with the least resume; none where none is open
abbrev pub slowest : List NamedLeaf → Option SubName
slowest leaves = slowest_at (least_resume leaves) leaves

-- open, with a resume below high
abbrev pub resumes_below : ℕ → Option ℕ → Bool
resumes_below high None = false
resumes_below high (Some resume) = nat_lt resume high

-- open, and with something to acknowledge or a resume below high
abbrev pub is_due : ℕ → NamedLeaf → Bool
is_due high leaf = is_some leaf.resume && (leaf.is_unacknowledged || resumes_below high leaf.resume)

-- the next due name after a given one, else the least
abbrev pub due_after : ℕ → Option SubName → List NamedLeaf → Option SubName
due_after high after leaves = next_after sub_lt after (names_where (is_due high) leaves)
