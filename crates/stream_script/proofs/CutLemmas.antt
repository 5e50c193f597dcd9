-- A script cut at its first line feed.
use Rattle.stream_script.proofs.Prelude.{ℕ, Bool, true, false, cond, List, [], ◌∷◌, Option, None, Some, refl, ◌≡◌, suc, ◌<◌, ◌≤◌, eqb, length, ap, ◌∙◌, arith, length-map, option_map, Parts, split_once}
use Rattle.stream_script.specs.Lines.{cut_at_feeds, with_first, without_return, lines_of}

-- the lines of a script, from its parts at the first line feed
abbrev pub from_parts : List ℕ → Option Parts → List (List ℕ)
from_parts script None = script ∷ []
from_parts script (Some parts) = parts.0 ∷ cut_at_feeds parts.1

with_byte : (byte : ℕ) (script : List ℕ) (parts : Option Parts) → with_first byte (from_parts script parts) ≡ from_parts (byte ∷ script) (option_map (λ p. (byte ∷ p.0, p.1)) parts)
with_byte byte script None = refl
with_byte byte script (Some parts) = refl

cut_step : (b : Bool) (byte : ℕ) (script : List ℕ) (parts : Option Parts) → with_first byte (cut_at_feeds script) ≡ from_parts (byte ∷ script) (option_map (λ p. (byte ∷ p.0, p.1)) parts)
    → cond b ([] ∷ cut_at_feeds script) (with_first byte (cut_at_feeds script)) ≡ from_parts (byte ∷ script) (cond b (Some ([], script)) (option_map (λ p. (byte ∷ p.0, p.1)) parts))
cut_step true byte script parts e = refl
cut_step false byte script parts e = e

cut_from : (byte : ℕ) (script : List ℕ) → cut_at_feeds (byte ∷ script) ≡ from_parts (byte ∷ script) (split_once 10 (byte ∷ script))
cut_from byte [] = cut_step (eqb byte 10) byte [] None refl
cut_from byte (next ∷ script) =
    let rest = next ∷ script in
    cut_step (eqb byte 10) byte rest (split_once 10 rest) (ap (with_first byte) (cut_from next script) ∙ with_byte byte rest (split_once 10 rest))

pub cut-parts : (script : List ℕ) → 0 < length script → cut_at_feeds script ≡ from_parts script (split_once 10 script)
cut-parts [] some = absurd (omega arith)
cut-parts (byte ∷ script) some = cut_from byte script

length-with_first : (byte : ℕ) (lines : List (List ℕ)) → length (with_first byte lines) ≤ suc (length lines)
length-with_first byte [] = omega arith
length-with_first byte (line ∷ lines) = omega arith

length-step : (b : Bool) (byte n : ℕ) (lines : List (List ℕ)) → length lines ≤ n → length (cond b ([] ∷ lines) (with_first byte lines)) ≤ suc n
length-step true byte n lines h = omega arith
length-step false byte n lines h = omega (arith, length-with_first byte lines)

length-cut : (script : List ℕ) → length (cut_at_feeds script) ≤ length script
length-cut [] = omega arith
length-cut (byte ∷ script) = length-step (eqb byte 10) byte (length script) (cut_at_feeds script) (length-cut script)

-- there are no more lines than bytes
pub length-lines_of : (script : List ℕ) → length (lines_of script) ≤ length script
length-lines_of script = omega (arith, length-cut script, length-map (cut_at_feeds script) without_return)
