-- The resumes as contracts see them: a leaf for each number, and the numbers in their order.
use Rattle.std.specs.Prelude.{ℕ, zero, suc, ◌+◌, Bool, false, ◌&&◌, List, [], ◌∷◌, ◌++◌, length, map, filter, get_or, set, take, Option, Some, None, is_some, nat_lt, slice_index}
use Rattle.std.specs.List.{insert}
use Rattle.std.specs.Option.{option_map}
use Rattle.stream_ident.specs.Words.{or_else}
use Rattle.ranked_index.specs.Keys.{first_at_most, least_key, least_place}
use Rattle.ranked_index.specs.Ranks.{due_key, resume_key}
use Rattle.ranked_index.specs.declared.resumes.Leaf.{Leaf}

-- the leaves by number, and the numbers by rank
pub record PlainResumes : Type 0 where
  pub leaves : List Leaf
  pub order : List ℕ

-- no leaf
abbrev pub empty : PlainResumes
empty = record { leaves = []; order = [] }

-- what stands for a leaf where there is none
abbrev pub no_leaf : Leaf
no_leaf = record { resume = None; is_unacknowledged = false }

-- the leaf with a resume, none where it is closed, and with something to acknowledge only where it is open
abbrev pub leaf_with : Option ℕ → Bool → Leaf
leaf_with resume is_unacknowledged = record { resume = resume; is_unacknowledged = is_some resume && is_unacknowledged }

-- an open leaf with nothing to acknowledge
abbrev pub open_leaf : ℕ → Leaf
open_leaf resume = leaf_with (Some resume) false

-- a leaf more, which has the next number, at a rank
abbrev pub pushed : ℕ → Leaf → PlainResumes → PlainResumes
pushed rank leaf r = record { leaves = r.leaves ++ leaf ∷ []; order = insert r.order rank (length r.order) }

-- another leaf under a number
abbrev pub with_leaf : ℕ → Leaf → PlainResumes → PlainResumes
with_leaf number leaf r = record r { leaves = set r.leaves number leaf }

-- the same leaf under the numbers at so many ranks, from one on
abbrev pub leaves_filled : List ℕ → ℕ → ℕ → Leaf → List Leaf → List Leaf
leaves_filled order from zero leaf leaves = leaves
leaves_filled order from (suc count) leaf leaves = set (leaves_filled order from count leaf leaves) (slice_index order (from + count)) leaf

-- the same leaf at so many ranks that follow one another, from one on
abbrev pub with_leaves : ℕ → ℕ → Leaf → PlainResumes → PlainResumes
with_leaves from count leaf r = record r { leaves = leaves_filled r.order from count leaf r.leaves }

-- the numbers below a length, in the order that they had
abbrev pub numbers_below : ℕ → List ℕ → List ℕ
numbers_below len order = filter (λ number. nat_lt number len) order

-- the first leaves, in their order
abbrev pub truncated : ℕ → PlainResumes → PlainResumes
truncated len r = record { leaves = take len r.leaves; order = numbers_below len r.order }

-- the least resume of the open leaves, none where none is open
abbrev pub least_resume : PlainResumes → Option ℕ
least_resume r = least_key (map resume_key r.leaves)

-- the keys of the leaves by rank
abbrev pub keys_by_rank : (Leaf → Option ℕ) → PlainResumes → List (Option ℕ)
keys_by_rank key r = map (λ number. key (get_or r.leaves number no_leaf)) r.order

-- The number of the open leaf with the least resume. Of several it is the one with the least rank.
abbrev pub top : PlainResumes → Option ℕ
top r = option_map (slice_index r.order) (least_place (keys_by_rank resume_key r))

-- the number of the first leaf from a rank on that is due at `high`, else of the first such of all
abbrev pub due_from : ℕ → ℕ → PlainResumes → Option ℕ
due_from from high r =
    option_map (slice_index r.order) (or_else (first_at_most from high (keys_by_rank due_key r)) (first_at_most 0 high (keys_by_rank due_key r)))
