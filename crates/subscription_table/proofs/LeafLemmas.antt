-- The leaves of names and states, and what is kept of new states.
use Rattle.subscription_table.proofs.Prelude.{new_state, SubState, Registration, leaf_with, open_leaf, resume_key, ◌≡◌, ℕ, zero, suc, ◌<◌, List, [], ◌∷◌, length, get_or, map, Option, refl, ap, arith, le-ltb, SubName, Token}
use Rattle.subscription_table.specs.Leaves.{NamedLeaf}
use Rattle.subscription_table.specs.LeavesOf.{leaf_of, leaves_of, open_resume}
use Rattle.subscription_table.specs.Rows.{new_leaves}
use Rattle.subscription_table.specs.Standing.{kept_of}
use Rattle.subscription_table.specs.Table.{new_states, no_entry, no_state}
use Rattle.subscription_table.proofs.Answering.{resume_of}

abbrev pub Entry : Type 0
Entry = SubName × Registration

abbrev pub Names : Type 0
Names = List Entry

pub length-leaves_of : (names : Names) (states : List SubState) → length states ≡ length names → length (leaves_of names states) ≡ length names
length-leaves_of [] states long = refl
length-leaves_of (entry ∷ entries) [] long = absurd (omega arith)
length-leaves_of (entry ∷ entries) (state ∷ states) long = ap suc (length-leaves_of entries states (omega arith))

-- the leaf with a number
pub leaf_at : (names : Names) (states : List SubState) (number : ℕ) (d : NamedLeaf) → length states ≡ length names → number < length names
    → get_or (leaves_of names states) number d ≡ leaf_of (get_or names number no_entry) (get_or states number no_state)
leaf_at [] states number d long within = absurd (omega arith)
leaf_at (entry ∷ entries) [] number d long within = absurd (omega arith)
leaf_at (entry ∷ entries) (state ∷ states) zero d long within = refl
leaf_at (entry ∷ entries) (state ∷ states) (suc number) d long within = leaf_at entries states number d (omega arith) (omega arith)

-- the resumes of the leaves are those that are kept
pub same-resumes : (names : Names) (states : List SubState) → length states ≡ length names → map resume_key (map kept_of states) ≡ map resume_of (leaves_of names states)
same-resumes [] [] long = refl
same-resumes [] (state ∷ states) long = absurd (omega arith)
same-resumes (entry ∷ entries) [] long = absurd (omega arith)
same-resumes (entry ∷ entries) (state ∷ states) long =
    ap (λ (rest : List (Option ℕ)). open_resume state.live state.resume ∷ rest) (same-resumes entries states (omega arith))

-- one that has handled nothing has nothing to acknowledge
kept-new : (start : Token) (position : ℕ) → kept_of (new_state start position) ≡ open_leaf position
kept-new start position = ap (λ b. leaf_with (open_resume (new_state start position).live position) b) (le-ltb position 0 (omega arith))

pub kept-new_states : (position : ℕ) (entries : Names) → map kept_of (new_states position entries) ≡ new_leaves position entries
kept-new_states position [] = refl
kept-new_states position (entry ∷ entries) = λ i. kept-new entry.1.start position i ∷ kept-new_states position entries i
