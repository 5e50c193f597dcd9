use Rattle.silo_operators.proofs.Prelude.{◌≡◌, ◌⊎◌, ℕ, Option, Some, None, inl, inr, refl, ◌∙◌}
use Rattle.stream_ident.specs.declared.ident.GrainId.{GrainId}
use Rattle.activation_directory.specs.declared.op.DirectoryOp.TheVariants as asked
use Rattle.activation_directory.specs.declared.reply.DirectoryReply.{DirectoryReply}
use Rattle.activation_directory.specs.declared.reply.DirectoryReply.TheVariants as directory
use Rattle.activation_directory.specs.Placed.{least_on}
use Rattle.activation_directory.specs.Plain.{PlainDirectory}
use Rattle.activation_directory.specs.Step as plain
use Rattle.shared_partition.specs.Directories.{after, replied}
use Rattle.silo_operators.proofs.Making.{called-reply}
use Rattle.silo_operators.proofs.leaving.take_grain.Goals as goal

-- what the directory answers to Down
abbrev ReleasesOrNone : DirectoryReply → Type 0
ReleasesOrNone r = (r ≡ directory.NoneLeft) ⊎ ((grain : GrainId) × (left : ℕ) × (r ≡ directory.Released grain left))

down-replies-by : (d : PlainDirectory) (silo : ℕ) (least : Option GrainId) → ReleasesOrNone (plain.down d silo least).1
down-replies-by d silo None = inl refl
down-replies-by d silo (Some grain) = inr (grain, _, refl)

down-replies : (d : PlainDirectory) (silo : ℕ) → ReleasesOrNone (replied d (asked.Down silo))
down-replies d silo = down-replies-by d silo (least_on silo d.placed)

pub unreachable-requires : goal.unreachable-requires
unreachable-requires g c =
    let gets = called-reply replied after c.args.directory.now (asked.Down c.args.silo) c.in_ok-grain.field-0 c.call.new.self c.in_ok-grain.ensures.call in
    elim (down-replies gets.0 c.args.silo) as (λ s. ⊥) [
      | inl none ↦ c.in_default.not-NoneLeft (gets.1 ∙ none)
      | inr released ↦ c.in_default.not-Released released.0 released.1 (gets.1 ∙ released.2)
    ]
