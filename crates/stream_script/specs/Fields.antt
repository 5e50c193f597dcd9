-- The fields of a command: how each is read, and the fault of one that is wrong.
use Rattle.std.specs.Prelude.{ℕ, ◌^◌, Bool, true, false, List, Option, Some, None, Result, Ok, Err, ◌==◌, nat_lt, if◌then◌else◌}
use Rattle.std.specs.List.{list_any}
use Rattle.stream_ident.specs.declared.ident.GrainId.{GrainId}
use Rattle.stream_ident.specs.declared.ident.StreamId.{StreamId}
use Rattle.stream_ident.specs.declared.ident.SubName.{SubName}
use Rattle.stream_ident.specs.declared.ident.SubName.TheVariants as name
use Rattle.stream_ident.specs.declared.token.Token.{Token}
use Rattle.stream_ident.specs.Name.{name_of, payload_of, stream_of, grain_of, ◌>>=◌}
use Rattle.stream_ident.specs.Number.{number_of}
use Rattle.stream_ident.specs.Text.{split_once}
use Rattle.stream_ident.specs.Token.{token_of}
use Rattle.stream_script.specs.declared.parser.command.FaultKind.{FaultKind}
use Rattle.stream_script.specs.declared.parser.command.FaultKind.TheVariants as kind

-- the value where there is one, else the fault
abbrev pub or_fault : {A : Type 0} → FaultKind → Option A → Result A FaultKind
or_fault fault None = Err fault
or_fault fault (Some x) = Ok x

-- another error, as this fault
abbrev pub as_fault : {A E : Type 0} → FaultKind → Result A E → Result A FaultKind
as_fault fault (Ok x) = Ok x
as_fault fault (Err e) = Err fault

abbrev pub guard : FaultKind → Bool → {A : Type 0} → A → Result A FaultKind
guard fault true x = Ok x
guard fault false x = Err fault

-- a number in decimal, without leading zeros, below the bound
unfoldable pub number_field : ℕ → List ℕ → Result ℕ FaultKind
number_field bound bytes = do
  n ← or_fault kind.BadNumber (number_of bytes)
  guard kind.BadNumber (nat_lt n bound) n

-- the number of a queue
unfoldable pub queue_field : ℕ → List ℕ → Result ℕ FaultKind
queue_field queues bytes = do
  n ← number_field (2 ^ 32) bytes
  guard kind.NoQueue (nat_lt n queues) n

-- NS/KEY
unfoldable pub stream_field : List ℕ → Result StreamId FaultKind
stream_field bytes = do
  parts ← or_fault kind.BadName (split_once 47 bytes)
  as_fault kind.BadName (stream_of parts.0 parts.1)

-- KIND/KEY
unfoldable pub grain_field : List ℕ → Result GrainId FaultKind
grain_field bytes = do
  parts ← or_fault kind.BadName (split_once 47 bytes)
  as_fault kind.BadName (grain_of parts.0 parts.1)

-- a name by itself
unfoldable pub bare_name_field : List ℕ → Result (List ℕ) FaultKind
bare_name_field bytes = as_fault kind.BadName (name_of bytes)

-- SEQ.IDX
unfoldable pub token_field : List ℕ → Result Token FaultKind
token_field bytes = as_fault kind.BadToken (token_of bytes)

-- at most 256 bytes
unfoldable pub payload_field : List ℕ → Result (List ℕ) FaultKind
payload_field bytes = as_fault kind.BadText (payload_of bytes)

-- an explicit number, 1 or more
unfoldable pub explicit_field : List ℕ → Result SubName FaultKind
explicit_field bytes = do
  n ← number_field (2 ^ 32) bytes
  guard kind.BadNumber (nat_lt 0 n) (name.Explicit n)

-- KIND@NS/KEY, cut at its `@`
unfoldable pub implicit_field : List ℕ × List ℕ → Result SubName FaultKind
implicit_field parts = do
  own_kind ← as_fault kind.BadName (name_of parts.0)
  stream ← stream_field parts.1
  Ok (name.Implicit own_kind stream)

abbrev pub name_from : List ℕ → Option (List ℕ × List ℕ) → Result SubName FaultKind
name_from bytes None = explicit_field bytes
name_from bytes (Some parts) = implicit_field parts

-- the name of a subscription: a number, or with an `@` an implicit name
unfoldable pub name_field : List ℕ → Result SubName FaultKind
name_field bytes = name_from bytes (split_once 64 bytes)

-- the queue, and what stands behind exactly one `:`
unfoldable pub sub_parts : ℕ → List ℕ → Result (ℕ × List ℕ) FaultKind
sub_parts queues bytes = do
  parts ← or_fault kind.BadName (split_once 58 bytes)
  after ← guard kind.BadName (if list_any (λ byte. byte == 58) parts.1 then false else true) parts.1
  queue ← queue_field queues parts.0
  Ok (queue, after)

-- Q:NAME
unfoldable pub sub_field : ℕ → List ℕ → Result (ℕ × SubName) FaultKind
sub_field queues bytes = do
  parts ← sub_parts queues bytes
  sub ← name_field parts.1
  Ok (parts.0, sub)

-- Q:NAME, of this queue
unfoldable pub own_sub_field : ℕ → ℕ → List ℕ → Result SubName FaultKind
own_sub_field queues queue bytes = do
  parts ← sub_parts queues bytes
  after ← guard kind.NoQueue (parts.0 == queue) parts.1
  name_field after
