-- A line that publishes.
use Rattle.std.specs.Prelude.{◌≡◌, ℕ, List, ◌∷◌, Option, codes}
use Rattle.std.specs.Option.{option_map}
use Rattle.stream_model.specs.declared.op.Op.TheVariants as op
use Rattle.stream_script.specs.declared.parser.command.Command.TheVariants.{Step}
use Rattle.stream_script.specs.declared.parser.command.Mode.{Mode}
use Rattle.stream_script.specs.declared.parser.command.Parsed.TheVariants as parsed
use Rattle.stream_script.specs.declared.parser.publish.Publish.{Publish}
use Rattle.stream_script.specs.Pieces.{Piece, Word}
use Rattle.stream_script.specs.Reading.{reading}

-- the line publishes these texts, whatever its number is and whatever the script is for
abbrev pub IsPublish : ℕ → List ℕ → Publish → List (List ℕ) → Type 0
IsPublish queues bytes publish texts =
    (mode : Mode) (line : ℕ) → reading queues mode line bytes ≡ parsed.Command (Step publish.queue (op.Publish publish.stream texts))

-- the word `pub` and this one in front of pieces
abbrev pub with_pub : List ℕ → Option (List Piece) → Option (List Piece)
with_pub word pieces = option_map (λ more. Word (codes "pub") ∷ Word word ∷ more) pieces
