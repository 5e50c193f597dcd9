-- What is kept of the leaves: their numbers in an order, and their keys by rank.
use Rattle.std.specs.Prelude.{◌≡◌, ℕ, ◌+◌, Bool, true, false, List, length, map, get_or, Option, Some, None, unwrap_or, ◌==◌}
use Rattle.std.specs.List.{range_with_len}
use Rattle.stream_ident.specs.Words.{first_at}
use Rattle.ranked_index.specs.Keys.{is_at_most}
use Rattle.ranked_index.specs.Ranked.{AreByRank}
use Rattle.ranked_index.specs.Ranking.{IsRanking}
use Rattle.ranked_index.specs.Tree.{key_of, no_node}
use Rattle.ranked_index.specs.declared.resumes.Leaf.{Leaf}
use Rattle.ranked_index.specs.declared.tree.Node.{Node}

-- the least high at which a leaf is due, less than any where something is unacknowledged, and none of a closed one
abbrev pub due_at : Option ℕ → Bool → Option ℕ
due_at None is_unacknowledged = None
due_at (Some resume) true = Some 0
due_at (Some resume) false = Some (resume + 1)

-- the least high at which this leaf is due
abbrev pub due_key : Leaf → Option ℕ
due_key leaf = due_at leaf.resume leaf.is_unacknowledged

-- the resume of this leaf
abbrev pub resume_key : Leaf → Option ℕ
resume_key leaf = leaf.resume

-- the rank of a number
abbrev pub rank_in : List ℕ → ℕ → ℕ
rank_in order number = unwrap_or (first_at (λ other. other == number) 0 order) 0

-- the leaf of these keys: it is due at once where it has something to acknowledge
abbrev pub leaf_of : Node → Leaf
leaf_of node = record { resume = key_of node.resume; is_unacknowledged = is_at_most 0 (key_of node.due) }

-- the leaves by number, from their keys by rank
abbrev pub leaves_by : List ℕ → List Node → List Leaf
leaves_by order row = map (λ number. leaf_of (get_or row (rank_in order number) no_node)) (range_with_len 0 (length order))

-- these are the keys of this leaf
pub record IsLeaf (leaf : Leaf) (node : Node) : Type 0 where
  pub is : leaf_of node ≡ leaf
  pub due : key_of node.due ≡ due_key leaf

-- all that is kept of the leaves fits them
pub record AreKept (leaves : List Leaf) (order : List ℕ) (row : List Node) : Type 0 where
  pub long : length order ≡ length leaves
  pub ranking : IsRanking order
  pub kept : AreByRank IsLeaf no_node leaves order row
