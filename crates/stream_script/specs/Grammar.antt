-- The commands as they are written: each has this list of pieces, and a line that is made of it reads as
-- the command.
use Rattle.std.specs.Prelude.{◌≡◌, ℕ, ◌^◌, ◌<◌, ◌⊎◌, List, [], ◌∷◌, map, Some, None, codes}
use Rattle.std.specs.Fmt.{decimal}
use Rattle.std.specs.List.{AllByRecursion}
use Rattle.stream_ident.specs.Alphabet.{IsName, IsPayload}
use Rattle.stream_ident.specs.declared.ident.GrainId.{GrainId}
use Rattle.stream_ident.specs.declared.ident.StreamId.{StreamId}
use Rattle.stream_ident.specs.declared.ident.SubName.{SubName}
use Rattle.stream_ident.specs.declared.ident.SubName.TheVariants as name
use Rattle.stream_ident.specs.Token.{IsToken, token_text}
use Rattle.stream_ident.specs.declared.limits.TheConstants.{MOST_SILOS}
use Rattle.stream_model.specs.declared.op.Op.{Op}
use Rattle.stream_model.specs.declared.op.Op.TheVariants as op
use Rattle.stream_model.specs.declared.op.Start.{Start}
use Rattle.stream_model.specs.declared.op.Start.TheVariants as start
use Rattle.stream_script.specs.declared.parser.command.Command.{Command}
use Rattle.stream_script.specs.declared.parser.command.Command.TheVariants.{Step, Each, Drain, Report, Up, Down}
use Rattle.stream_script.specs.declared.parser.command.EachOp.TheVariants as each
use Rattle.stream_script.specs.declared.parser.command.Mode.{Mode}
use Rattle.stream_script.specs.declared.parser.command.Mode.TheVariants as mode
use Rattle.stream_script.specs.Pieces.{Piece, Word, Text, IsLineOf}
use Rattle.stream_script.specs.Forms.{queue_of}
use Rattle.stream_script.specs.Spelling.{stream_text, grain_text, sub_text}

abbrev pub IsStream : StreamId → Type 0
IsStream stream = IsName stream.namespace × IsName stream.key

abbrev pub IsGrain : GrainId → Type 0
IsGrain grain = IsName grain.kind × IsName grain.key

abbrev pub IsSub : SubName → Type 0
IsSub (name.Explicit number) = (0 < number) × (number < 2 ^ 32)
IsSub (name.Implicit kind stream) = IsName kind × IsStream stream

-- how many queues there are, and a queue of them
abbrev pub IsQueue : ℕ → ℕ → Type 0
IsQueue queues queue = (queue < queues) × (queue < 2 ^ 32)

abbrev pub StartsAt : List Piece → Start → Type 0
StartsAt pieces start.Latest = pieces ≡ Word (codes "latest") ∷ []
StartsAt pieces (start.At token) = IsToken token × (pieces ≡ Word (codes "from") ∷ Word (token_text token) ∷ [])

-- the operation on this queue has these pieces
abbrev pub IsWritten : ℕ → List Piece → ℕ → Op → Type 0
IsWritten queues pieces queue (op.Publish stream payloads) =
    IsStream stream × AllByRecursion IsPayload payloads × (queue ≡ queue_of stream queues)
    × (pieces ≡ Word (codes "pub") ∷ Word (stream_text stream) ∷ map Text payloads)
IsWritten queues pieces queue (op.Subscribe stream grain start) =
    IsStream stream × IsGrain grain × (queue ≡ queue_of stream queues)
    × (more : List Piece) × StartsAt more start × (pieces ≡ Word (codes "sub") ∷ Word (stream_text stream) ∷ Word (grain_text grain) ∷ more)
IsWritten queues pieces queue (op.Pull generation most) =
    IsQueue queues queue × (generation < 2 ^ 64) × (most < 2 ^ 32)
    × (pieces ≡ Word (codes "pull") ∷ Word (decimal queue) ∷ Word (decimal generation) ∷ Word (decimal most) ∷ [])
IsWritten queues pieces queue (op.Deliver generation sub) =
    IsQueue queues queue × (generation < 2 ^ 64) × IsSub sub
    × (pieces ≡ Word (codes "deliver") ∷ Word (decimal generation) ∷ Word (sub_text queue sub) ∷ [])
IsWritten queues pieces queue (op.Begin grain most) =
    IsQueue queues queue × IsGrain grain × (most < 2 ^ 32)
    × (((pieces ≡ Word (codes "begin") ∷ Word (decimal queue) ∷ Word (grain_text grain) ∷ []) × (most ≡ 1))
    ⊎ (pieces ≡ Word (codes "begin") ∷ Word (decimal queue) ∷ Word (grain_text grain) ∷ Word (decimal most) ∷ []))
IsWritten queues pieces queue (op.Commit grain activation turn note) =
    IsQueue queues queue × IsGrain grain × (activation < 2 ^ 64) × (turn < 2 ^ 64) × (note < 2 ^ 64)
    × (pieces ≡ Word (codes "commit") ∷ Word (decimal queue) ∷ Word (grain_text grain) ∷ Word (decimal activation) ∷ Word (decimal turn) ∷ Word (decimal note) ∷ [])
IsWritten queues pieces queue (op.Unsubscribe sub) =
    IsQueue queues queue × IsSub sub
    × (pieces ≡ Word (codes "unsub") ∷ Word (sub_text queue sub) ∷ [])
IsWritten queues pieces queue (op.Retry generation sub) =
    IsQueue queues queue × (generation < 2 ^ 64) × IsSub sub
    × (pieces ≡ Word (codes "retry") ∷ Word (decimal generation) ∷ Word (sub_text queue sub) ∷ [])
IsWritten queues pieces queue (op.Ack generation sub token) =
    IsQueue queues queue × (generation < 2 ^ 64) × IsSub sub × IsToken token
    × (pieces ≡ Word (codes "ack") ∷ Word (decimal generation) ∷ Word (sub_text queue sub) ∷ Word (token_text token) ∷ [])
IsWritten queues pieces queue (op.Purge generation keep) =
    IsQueue queues queue × (generation < 2 ^ 64) × (keep < 2 ^ 32)
    × (pieces ≡ Word (codes "purge") ∷ Word (decimal queue) ∷ Word (decimal generation) ∷ Word (decimal keep) ∷ [])
IsWritten queues pieces queue (op.Move silo) =
    IsQueue queues queue × (silo < MOST_SILOS)
    × (pieces ≡ Word (codes "move") ∷ Word (decimal queue) ∷ Word (decimal silo) ∷ [])
IsWritten queues pieces queue (op.Deactivate grain) =
    IsQueue queues queue × IsGrain grain
    × (pieces ≡ Word (codes "deactivate") ∷ Word (decimal queue) ∷ Word (grain_text grain) ∷ [])
IsWritten queues pieces queue (op.Ready None) =
    IsQueue queues queue
    × (pieces ≡ Word (codes "ready") ∷ Word (decimal queue) ∷ [])
IsWritten queues pieces queue (op.Ready (Some grain)) =
    IsQueue queues queue × IsGrain grain
    × (pieces ≡ Word (codes "ready") ∷ Word (decimal queue) ∷ Word (grain_text grain) ∷ [])
IsWritten queues pieces queue (op.Due None) =
    IsQueue queues queue
    × (pieces ≡ Word (codes "due") ∷ Word (decimal queue) ∷ [])
IsWritten queues pieces queue (op.Due (Some sub)) =
    IsQueue queues queue × IsSub sub
    × (pieces ≡ Word (codes "due") ∷ Word (decimal queue) ∷ Word (sub_text queue sub) ∷ [])
IsWritten queues pieces queue _ = ⊥

-- the command has these pieces
abbrev pub IsSpelled : ℕ → List Piece → Command → Type 0
IsSpelled queues pieces (Step queue o) = IsWritten queues pieces queue o
IsSpelled queues pieces (Each (each.Rule own_kind namespace)) =
    IsName own_kind × IsName namespace × (pieces ≡ Word (codes "rule") ∷ Word own_kind ∷ Word namespace ∷ [])
IsSpelled queues pieces (Each each.Quiet) = pieces ≡ Word (codes "quiet") ∷ []
IsSpelled queues pieces Drain = pieces ≡ Word (codes "drain") ∷ []
IsSpelled queues pieces Report = pieces ≡ Word (codes "report") ∷ []
IsSpelled queues pieces (Up silo) = (silo < MOST_SILOS) × (pieces ≡ Word (codes "up") ∷ Word (decimal silo) ∷ [])
IsSpelled queues pieces (Down silo) = (silo < MOST_SILOS) × (pieces ≡ Word (codes "down") ∷ Word (decimal silo) ∷ [])

-- what may stand in a script of this kind
abbrev pub MayStand : Mode → Command → Type 0
MayStand mode.Sim (Up silo) = ⊥
MayStand mode.Sim (Down silo) = ⊥
MayStand mode.Sim _ = Unit {0}
MayStand mode.Run (Step queue (op.Publish stream payloads)) = Unit {0}
MayStand mode.Run (Step queue (op.Subscribe stream grain start)) = Unit {0}
MayStand mode.Run (Step queue (op.Unsubscribe sub)) = Unit {0}
MayStand mode.Run (Each (each.Rule own_kind namespace)) = Unit {0}
MayStand mode.Run Drain = Unit {0}
MayStand mode.Run (Up silo) = Unit {0}
MayStand mode.Run (Down silo) = Unit {0}
MayStand mode.Run _ = ⊥

-- the grammar: the line spells this command
abbrev pub Reads : Mode → ℕ → List ℕ → Command → Type 0
Reads mode queues line command = MayStand mode command × (pieces : List Piece) × IsLineOf line pieces × IsSpelled queues pieces command
