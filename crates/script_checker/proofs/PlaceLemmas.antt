-- Where pieces begin and end.
use Rattle.script_checker.proofs.Prelude.{◌≡◌, ◌≢◌, ℕ, ◌-◌, ◌<◌, ◌≤◌, false, List, [], ◌∷◌, suc, length, slice_index, get_or, refl, sym, subst, ◌∙◌, inl, inr, arith, eq-eqb, cases_Bool, cases_lt, list_all, Mode}
use Rattle.stream_script.specs.declared.parser.command.Fault.{Fault}
use Rattle.stream_script.specs.declared.parser.command.Parsed.TheVariants as parsed
use Rattle.stream_script.specs.Pieces.{is_space}
use Rattle.stream_script.specs.Reading.{reading}
use Rattle.script_checker.specs.declared.piece.Piece.{Piece}
use Rattle.script_checker.specs.Places.{AreSpaces, EndsAt, IsNextFrom, IsWhole}

-- what stands between a beginning and an end is a whole piece: a space stands in front of it where it doesn't begin the line
pub next_at : (line : List ℕ) (from start : ℕ) (piece : Piece) → (0 < from → EndsAt line from) → from ≤ start → AreSpaces line from start → (start < length line → slice_index line start ≢ 32)
    → piece.start ≡ start → start < piece.end → piece.end ≤ length line → EndsAt line piece.end → IsNextFrom line from piece
next_at line from start piece edge behind spaces no_space same some within ends =
    let first = no_space (omega arith) in
    let begins : 0 < start → get_or line (start - 1) 0 ≡ 32 = λ more.
    elim (cases_lt from start) [
      | inl apart ↦ spaces (start - 1) (omega arith) (omega arith)
      | inr past ↦
          let here : from ≡ start = omega arith in
          absurd (first (subst (λ at. get_or line at 0 ≡ 32) here (edge (omega arith) (omega arith))))
    ] in
    subst (λ at. (from ≤ at) × AreSpaces line from at × IsWhole line at piece.end) (sym same)
    (behind, spaces, record { some = some; within = within; first = first; begins = begins; ends = ends })

-- a line isn't all spaces where one of its bytes isn't a space
pub no_spaces : (bytes : List ℕ) → list_all is_space bytes ≡ false → AreSpaces bytes 0 (length bytes) → ⊥
no_spaces [] e spaces = cc
no_spaces (byte ∷ bytes) e spaces =
    let first : byte ≡ 32 = spaces 0 (omega arith) (omega arith) in
    no_spaces bytes (sym (rw (eq-eqb byte 32 first) refl) ∙ e) (λ k _ below. spaces (suc k) (omega arith) (omega arith))

-- a line with a fault isn't all spaces
pub fault_not_spaces : (queues line : ℕ) (mode : Mode) (bytes : List ℕ) (fault : Fault) → reading queues mode line bytes ≡ parsed.Fault fault → list_all is_space bytes ≡ false
unfolding reading
fault_not_spaces queues line mode bytes fault e =
    elim (cases_Bool (list_all is_space bytes)) [
      | inl h ↦ let skipped : parsed.Skip ≡ parsed.Fault fault = sym (rw h refl) ∙ e in absurd cc
      | inr h ↦ h
    ]
