-- A loop that reads each element of a list.
use Rattle.stream_script.proofs.Prelude.{◌≡◌, ◌+◌, ◌<◌, ◌≤◌, ◌++◌, length, drop, map, Result, Err, sym, ap, ◌∙◌, map_push, append_assoc, get_or, append-nil, drop_all, ℕ, List, [], ◌∷◌, Ok, refl, IsErr, IsErrAnd, ◌>>=◌, drop-read}
use Rattle.stream_script.specs.declared.parser.command.FaultKind.{FaultKind}
use Rattle.stream_script.specs.declared.parser.command.LineError.{LineError}
use Rattle.stream_script.specs.declared.parser.command.LineError.TheVariants as errors
use Rattle.stream_script.specs.Forms.{read_all}
use Rattle.stream_script.specs.Reading.{Gives}

-- these in front of those that the rest reads as
abbrev pub with_read : {B : Type 0} → List B → Result (List B) FaultKind → Result (List B) FaultKind
with_read front rest = rest >>= λ more. Ok (front ++ more)

with_one : {C : Type 0} (front : List C) (y : C) (rest : Result (List C) FaultKind) → with_read front (rest >>= λ ys. Ok (y ∷ ys)) ≡ with_read (front ++ y ∷ []) rest
with_one front y (Ok ys) = ap (λ all. Ok all) (sym (append_assoc front (y ∷ []) ys))
with_one front y (Err fault) = refl

-- one more element was read, and pushed
pub read_more : {A B C D : Type 0} (read : B → Result C FaultKind) (view : A → B) (value : D → C) (front after : List D) (xs : List A) (i : ℕ) (x : A) (y : D) (whole : Result (List C) FaultKind)
    → after ≡ front ++ y ∷ [] → i < length xs → x ≡ get_or xs i x → read (view x) ≡ Ok (value y) → with_read (map value front) (read_all read (map view (drop i xs))) ≡ whole
    → with_read (map value after) (read_all read (map view (drop (i + 1) xs))) ≡ whole
read_more read view value front after xs i x y whole pushed within is reads so_far =
    let rest = map view (drop (i + 1) xs) in
    let here = rw (drop-read xs i x within is, reads) at so_far in
    ap (λ front. with_read front (read_all read rest)) (ap (map value) pushed ∙ map_push value front y)
    ∙ (sym (with_one (map value front) (value y) (read_all read rest)) ∙ here)

-- an element has a fault
pub read_stuck : {A B C X : Type 0} (read : B → Result C FaultKind) (view : A → B) (given : X → List C) (front : List C) (xs : List A) (i : ℕ) (x : A) (fault : FaultKind) (result : Result X LineError) (whole : Result (List C) FaultKind)
    → i < length xs → x ≡ get_or xs i x → read (view x) ≡ Err fault → with_read front (read_all read (map view (drop i xs))) ≡ whole
    → IsErr result → IsErrAnd result (λ e. e ≡ errors.Fault fault) → Gives given result whole
read_stuck read view given front xs i x fault (Ok done) whole within is reads so_far failed e = absurd cc
read_stuck read view given front xs i x fault (Err error) whole within is reads so_far failed e =
    let stuck = rw (drop-read xs i x within is, reads) at so_far in
    let is : error ≡ errors.Fault fault = e in
    rw is (sym stuck)

-- all elements were read
pub read_done : {A B C : Type 0} (read : B → Result C FaultKind) (view : A → B) (front : List C) (xs : List A) (i : ℕ) (whole : Result (List C) FaultKind)
    → length xs ≤ i → with_read front (read_all read (map view (drop i xs))) ≡ whole → whole ≡ Ok front
read_done read view front xs i whole all so_far = sym (rw (drop_all i xs all, append-nil front) at so_far)
