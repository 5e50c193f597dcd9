-- One of the partitions done, and each of them in the order of their queues.
use Rattle.stream_script.proofs.Prelude.{ℕ, List, [], ◌∷◌, Ok, refl, ◌≡◌, suc, ◌+◌, ◌<◌, ◌++◌, length, get_or, set, take, drop, Result, Err, ap, append_assoc, arith, add-one, drop-cons, drop-set-lt, get_or_read, take_more_set, OnOk, PlainPartition}
use Rattle.stream_script.specs.Simulation.{behind, each_done}
use Rattle.stream_script.specs.Writing.{Writes}

-- the partition of the queue was done, and its line was appended
pub does : {T E : Type 0} (one : ℕ → PlainPartition → PlainPartition × List ℕ) (partitions : List PlainPartition) (queue : ℕ) (old new missing : PlainPartition) (line : List ℕ) (result : Result T E) (before text : List ℕ)
    → queue < length partitions → old ≡ get_or partitions queue old → (new, line) ≡ one queue old → Writes before text result line
    → OnOk result ((set partitions queue new, text) ≡ behind before (set partitions queue (one queue (get_or partitions queue missing)).0, (one queue (get_or partitions queue missing)).1))
does one partitions queue old new missing line (Ok done) before text within read is written =
    let at_queue : old ≡ get_or partitions queue missing = get_or_read partitions queue old within read missing in
    rw (← at_queue, ← is, written) refl
does one partitions queue old new missing line (Err e) before text within read is written = tt

-- the partitions before this queue were done: they and their text, and then what is left, are the whole
abbrev pub SoFar : (ℕ → PlainPartition → PlainPartition × List ℕ) → ℕ → List PlainPartition → List PlainPartition → List ℕ → Type 0
SoFar one queue old now text =
    let left = each_done one queue (drop queue now) in (take queue now ++ left.0, text ++ left.1) ≡ each_done one 0 old

-- the next partition was done
pub next_done : (one : ℕ → PlainPartition → PlainPartition × List ℕ) (queue : ℕ) (old now after : List PlainPartition) (text more : List ℕ) (missing : PlainPartition) → queue < length now → SoFar one queue old now text
    → (after, more) ≡ behind text (set now queue (one queue (get_or now queue missing)).0, (one queue (get_or now queue missing)).1) → SoFar one (queue + 1) old after more
next_done one queue old now after text more missing within so_far next =
    let p = get_or now queue missing in
    let new : PlainPartition = (one queue p).0 in
    let line : List ℕ = (one queue p).1 in
    let left = each_done one (suc queue) (drop (suc queue) now) in
    let is_after : after ≡ set now queue new = ap (λ x. x.0) next in
    let is_more : more ≡ text ++ line = ap (λ x. x.1) next in
    let here : drop queue now ≡ p ∷ drop (suc queue) now = drop-cons now queue missing within in
    let before : (take queue now ++ new ∷ left.0, text ++ (line ++ left.1)) ≡ each_done one 0 old = rw here at so_far in
    let front : take (queue + 1) (set now queue new) ≡ take queue now ++ new ∷ [] = take_more_set now queue new within in
    let back : drop (queue + 1) (set now queue new) ≡ drop (queue + 1) now = drop-set-lt (queue + 1) now queue new (omega arith) in
    cc (add-one queue, append_assoc (take queue now) (new ∷ []) left.0, append_assoc text line left.1)
