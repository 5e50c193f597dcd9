-- How identities are written.
use Rattle.std.specs.Prelude.{ℕ, List, ◌∷◌, ◌++◌}
use Rattle.std.specs.Fmt.{decimal}
use Rattle.stream_ident.specs.declared.ident.GrainId.{GrainId}
use Rattle.stream_ident.specs.declared.ident.StreamId.{StreamId}
use Rattle.stream_ident.specs.declared.ident.SubName.{SubName}
use Rattle.stream_ident.specs.declared.ident.SubName.TheVariants as name

-- NS/KEY
abbrev pub stream_text : StreamId → List ℕ
stream_text stream = stream.namespace ++ 47 ∷ stream.key

-- how a grain is written: KIND/KEY
abbrev pub grain_text : GrainId → List ℕ
grain_text grain = grain.kind ++ 47 ∷ grain.key

-- how a subscription is written: a number, or KIND@NS/KEY
abbrev pub name_text : SubName → List ℕ
name_text (name.Explicit number) = decimal number
name_text (name.Implicit kind stream) = kind ++ 64 ∷ stream_text stream

-- Q:NAME
abbrev pub sub_text : ℕ → SubName → List ℕ
sub_text queue sub = decimal queue ++ 58 ∷ name_text sub
