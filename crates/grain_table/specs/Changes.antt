-- What changes at one grain, by its number.
use Rattle.std.specs.Prelude.{◌≡◌, ℕ, [], get_or, Result, Ok, Err}
use Rattle.std.specs.declared.alloc.AllocError.{AllocError}
use Rattle.stream_ident.specs.declared.ident.GrainId.{GrainId}
use Rattle.stream_ident.specs.Words.{change_at}
use Rattle.consumer_grain.specs.declared.mailbox.Delivery.{Delivery}
use Rattle.consumer_grain.specs.declared.told.Offered.{Offered}
use Rattle.consumer_grain.specs.Activations.{PlainActivation, new_activation, offered}
use Rattle.grain_table.specs.Grains.{PlainGrains}

-- what stands for a grain where there is none
abbrev pub no_grain : GrainId × PlainActivation
no_grain = (record { kind = []; key = [] }, new_activation)

-- the grain with a number
abbrev pub grain_at : PlainGrains → ℕ → GrainId
grain_at grains number = (get_or grains number no_grain).0

-- the activation of the grain with a number
abbrev pub activation_at : PlainGrains → ℕ → PlainActivation
activation_at grains number = (get_or grains number no_grain).1

-- The activation at a number was `offered` a delivery, or memory was refused and nothing has changed.
abbrev pub OffersAt : ℕ → PlainGrains → PlainGrains → Result Offered AllocError → Delivery → Type 0
OffersAt number old new (Ok told) delivery =
    (new ≡ change_at (λ a. (offered a delivery).0) number old) × (told ≡ (offered (activation_at old number) delivery).1)
OffersAt number old new (Err e) delivery = new ≡ old
