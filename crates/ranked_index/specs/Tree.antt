-- A tree of minima in a row of nodes: node i has the children 2i and 2i + 1, and the lesser keys of them. Place 0
-- is unused, and the second half of the row are the leaves, in order.
use Rattle.std.specs.Prelude.{◌≡◌, ℕ, zero, suc, ◌+◌, ◌<◌, ◌≤◌, min, nat_lt, List, length, get_or, Option, Some, None, if◌then◌else◌}
use Rattle.ranked_index.specs.declared.tree.Key.{Key}
use Rattle.ranked_index.specs.declared.tree.Key.TheVariants.{Resume, Due}
use Rattle.ranked_index.specs.declared.tree.Node.{Node}

-- the number that stands for no key
abbrev pub no_key : ℕ
no_key = 18446744073709551615

abbrev pub key_of : ℕ → Option ℕ
key_of number = if nat_lt number no_key then Some number else None

abbrev pub no_node : Node
no_node = record { resume = no_key; due = no_key }

abbrev pub number_by : Key → Node → ℕ
number_by Resume node = node.resume
number_by Due node = node.due

-- a key of a leaf
abbrev pub key_in : Key → Node → Option ℕ
key_in key node = key_of (number_by key node)

abbrev pub lesser_node : Node → Node → Node
lesser_node left right = record { resume = min left.resume right.resume; due = min left.due right.due }

-- what is read where there is no node
abbrev pub zero_node : Node
zero_node = record { resume = 0; due = 0 }

abbrev pub node_at : List Node → ℕ → Node
node_at nodes at = get_or nodes at zero_node

abbrev pub number_at : Key → List Node → ℕ → ℕ
number_at key nodes at = number_by key (node_at nodes at)

-- x doubled so many times
abbrev pub doubled : ℕ → ℕ → ℕ
doubled zero x = x
doubled (suc times) x = doubled times (x + x)

pub record IsPowerOfTwo (n : ℕ) : Type 0 where
  pub exponent : ℕ
  pub is : doubled exponent 1 ≡ n

-- a node is the lesser of its children
abbrev pub IsLesser : List Node → ℕ → Type 0
IsLesser nodes at = node_at nodes at ≡ lesser_node (node_at nodes (at + at)) (node_at nodes (at + at + 1))

-- each inner node before the first place and past the last is the lesser of its children
pub record IsTreeBut (first last : ℕ) (nodes : List Node) : Type 0 where
  pub before : (at : ℕ) → 0 < at → at + at + 1 < length nodes → at < first → IsLesser nodes at
  pub past : (at : ℕ) → 0 < at → at + at + 1 < length nodes → last < at → IsLesser nodes at

-- each inner node is the lesser of its children
pub record IsTree (nodes : List Node) : Type 0 where
  pub lesser : (at : ℕ) → 0 < at → at + at + 1 < length nodes → IsLesser nodes at

-- a whole tree, of which so many leaves are in use
pub record IsLeastTree (nodes : List Node) (first_leaf len : ℕ) : Type 0 where
  pub halves : length nodes ≡ first_leaf + first_leaf
  pub power : 0 < first_leaf → IsPowerOfTwo (length nodes)
  pub room : len ≤ first_leaf
  pub tree : IsTree nodes
  pub unused : (leaf : ℕ) → first_leaf + len ≤ leaf → leaf < length nodes → node_at nodes leaf ≡ no_node

-- the places from one to before another are one further, and a node stands in the gap
pub record IsShifted (old new : List Node) (leaf end : ℕ) (n : Node) : Type 0 where
  pub before : (i : ℕ) → i < leaf → node_at new i ≡ node_at old i
  pub here : node_at new leaf ≡ n
  pub moved : (i : ℕ) → leaf ≤ i → i < end → node_at new (i + 1) ≡ node_at old i
  pub past : (i : ℕ) → end < i → node_at new i ≡ node_at old i

-- the places past one, to before another, are one back, and the last of them is no leaf
pub record IsShiftedBack (old new : List Node) (leaf end : ℕ) : Type 0 where
  pub before : (i : ℕ) → i < leaf → node_at new i ≡ node_at old i
  pub moved : (i : ℕ) → leaf ≤ i → i + 1 < end → node_at new i ≡ node_at old (i + 1)
  pub last : (i : ℕ) → i + 1 ≡ end → node_at new i ≡ no_node
  pub past : (i : ℕ) → end ≤ i → node_at new i ≡ node_at old i

-- all from a place on are greater than the bound
abbrev pub AreGreater : Key → ℕ → ℕ → ℕ → List Node → Type 0
AreGreater key from end bound nodes = (i : ℕ) → from ≤ i → i < end → bound < number_at key nodes i

-- the least place at or past another that is at most the bound
pub record IsFirstAtMost (key : Key) (from bound place : ℕ) (nodes : List Node) : Type 0 where
  pub reached : from ≤ place
  pub within : place < length nodes
  pub small : number_at key nodes place ≤ bound
  pub greater : AreGreater key from place bound nodes

-- a node that is at most the bound, where the leaves from a place up to its own are greater
pub record IsSubtreeAtMost (key : Key) (from bound at : ℕ) (nodes : List Node) : Type 0 where
  pub some : 0 < at
  pub height : ℕ
  pub leaves : length nodes ≤ from + from
  pub reached : from ≤ doubled height at
  pub within : doubled height (at + 1) ≤ length nodes
  pub small : number_at key nodes at ≤ bound
  pub greater : AreGreater key from (doubled height at) bound nodes
