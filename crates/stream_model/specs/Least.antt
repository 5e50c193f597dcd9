-- The least key of a list of keys with their values.
use Rattle.std.specs.Prelude.{Bool, List, Option}
use Rattle.stream_ident.specs.Words.{least, above, keys_where}

-- the least key greater than the given one whose value passes, or of all where none is given
abbrev pub least_key : {K V : Type 0} → (K → K → Bool) → Option K → (V → Bool) → List (K × V) → Option K
least_key lt after passes entries = least lt (above lt after (keys_where passes entries))
