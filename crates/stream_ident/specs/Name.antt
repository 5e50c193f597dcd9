-- Names, payloads and ids as results of their constructors, and the tests on names.
use Rattle.std.specs.Prelude.{ℕ, Bool, ◌&&◌, ◌||◌, List, ◌∷◌, ◌++◌, Option, Some, None, Result, Ok, Err, nat_eq}
use Rattle.std.specs.Ordering.{nat_cmp, is_lt}
use Rattle.std.specs.Cmp.Lexicographic.{pointwise, slice_cmp}
use Rattle.stream_ident.specs.Alphabet.{wrong_in_name, wrong_in_payload}
use Rattle.stream_ident.specs.declared.ident.WrongByte.{WrongByte}
use Rattle.stream_ident.specs.declared.payload.BadPayload.{BadPayload}
use Rattle.stream_ident.specs.declared.ident.BadName.{BadName}
use Rattle.stream_ident.specs.declared.ident.StreamId.{StreamId}
use Rattle.stream_ident.specs.declared.ident.GrainId.{GrainId}

-- the bytes where they are a name, else the least wrong place
abbrev pub name_or : List ℕ → Option ℕ → Result (List ℕ) WrongByte
name_or bytes None = Ok bytes
name_or bytes (Some at) = Err (record { at = at })

-- The name that bytes spell, or the first wrong place: 64 for a longer name, 0 for an empty one.
abbrev pub name_of : List ℕ → Result (List ℕ) WrongByte
name_of bytes = name_or bytes (wrong_in_name bytes)

abbrev pub payload_or : List ℕ → Option ℕ → Result (List ℕ) BadPayload
payload_or bytes None = Ok bytes
payload_or bytes (Some at) = Err (record { at = at })

-- the payload that bytes spell, or the first wrong place
abbrev pub payload_of : List ℕ → Result (List ℕ) BadPayload
payload_of bytes = payload_or bytes (wrong_in_payload bytes)

-- the name in a field of an id, wrong at this place or nowhere
abbrev pub field_or : ℕ → List ℕ → Option ℕ → Result (List ℕ) BadName
field_or field bytes None = Ok bytes
field_or field bytes (Some at) = Err (record { field = field; at = at })

abbrev pub field_of : ℕ → List ℕ → Result (List ℕ) BadName
field_of field bytes = field_or field bytes (wrong_in_name bytes)

infixl 10 ◌>>=◌
abbrev pub ◌>>=◌ : {A B E : Type 0} → Result A E → (A → Result B E) → Result B E
(Ok x) >>= f = f x
(Err e) >>= f = Err e

-- the stream of two names, else what is wrong with the first that isn't one
abbrev pub stream_of : List ℕ → List ℕ → Result StreamId BadName
stream_of namespace key = do
  namespace ← field_of 0 namespace
  key ← field_of 1 key
  Ok (record { namespace = namespace; key = key })

-- the grain of two names, else what is wrong with the first that isn't one
abbrev pub grain_of : List ℕ → List ℕ → Result GrainId BadName
grain_of kind key = do
  kind ← field_of 0 kind
  key ← field_of 1 key
  Ok (record { kind = kind; key = key })

-- equality and order of names, by their bytes
abbrev pub same_name : List ℕ → List ℕ → Bool
same_name a b = pointwise nat_eq a b

-- by bytes, the first name before the second
abbrev pub name_lt : List ℕ → List ℕ → Bool
name_lt a b = is_lt (slice_cmp nat_cmp a b)

-- equality and order of streams and grains, by the first name and then by the second
abbrev pub same_stream : StreamId → StreamId → Bool
same_stream a b = same_name a.namespace b.namespace && same_name a.key b.key

-- by namespace, then by key
abbrev pub stream_lt : StreamId → StreamId → Bool
stream_lt a b = name_lt a.namespace b.namespace || (same_name a.namespace b.namespace && name_lt a.key b.key)

abbrev pub same_grain : GrainId → GrainId → Bool
same_grain a b = same_name a.kind b.kind && same_name a.key b.key

-- by kind, then by key
abbrev pub grain_lt : GrainId → GrainId → Bool
grain_lt a b = name_lt a.kind b.kind || (same_name a.kind b.kind && name_lt a.key b.key)

-- the texts of streams and grains: two names joined by a slash
abbrev pub stream_text : StreamId → List ℕ
stream_text stream = stream.namespace ++ 47 ∷ stream.key

abbrev pub grain_text : GrainId → List ℕ
grain_text grain = grain.kind ++ 47 ∷ grain.key
