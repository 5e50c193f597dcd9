-- Equality and order of the names of subscriptions.
use Rattle.std.specs.Prelude.{Bool, true, false, ◌&&◌, ◌||◌, ◌==◌, nat_lt}
use Rattle.stream_ident.specs.Name.{same_name, name_lt, same_stream, stream_lt}
use Rattle.stream_ident.specs.declared.ident.SubName.{SubName}
use Rattle.stream_ident.specs.declared.ident.SubName.TheVariants.{Explicit, Implicit}

-- the same subscription
abbrev pub same_sub : SubName → SubName → Bool
same_sub (Explicit m) (Explicit n) = m == n
same_sub (Implicit kind stream) (Implicit other_kind other_stream) = same_name kind other_kind && same_stream stream other_stream
same_sub (Explicit m) (Implicit kind stream) = false
same_sub (Implicit kind stream) (Explicit n) = false

-- explicit subscriptions by number, then implicit ones by kind, namespace and key
abbrev pub sub_lt : SubName → SubName → Bool
sub_lt (Explicit m) (Explicit n) = nat_lt m n
sub_lt (Explicit m) (Implicit kind stream) = true
sub_lt (Implicit kind stream) (Explicit n) = false
sub_lt (Implicit kind stream) (Implicit other_kind other_stream) =
    name_lt kind other_kind || (same_name kind other_kind && stream_lt stream other_stream)
