-- The grains of a partition, in the order of their first activation, and what is asked of them.
use Rattle.std.specs.Prelude.{◌≡◌, ℕ, ◌<◌, Bool, true, ◌&&◌, not, List, [], ◌∷◌, ◌++◌, length, get_or, Option, None, is_some, nat_lt}
use Rattle.stream_ident.specs.declared.ident.GrainId.{GrainId}
use Rattle.stream_ident.specs.Name.{same_grain, grain_lt}
use Rattle.stream_ident.specs.Words.{keys_where, least, next_after, place_of}
use Rattle.consumer_grain.specs.declared.mailbox.Delivery.{Delivery}
use Rattle.consumer_grain.specs.Activations.{PlainActivation, new_activation, woken}

-- the grains by their numbers, each with its activation
abbrev pub PlainGrains : Type 0
PlainGrains = List (GrainId × PlainActivation)

-- the number of a grain
abbrev pub number_of : PlainGrains → GrainId → Option ℕ
number_of grains grain = place_of same_grain grain grains

-- one grain more, active, with one delivery
abbrev pub with_grain : PlainGrains → GrainId → Delivery → PlainGrains
with_grain grains grain delivery = grains ++ (grain, woken new_activation delivery) ∷ []

-- something waits
abbrev pub is_waiting : PlainActivation → Bool
is_waiting a = nat_lt 0 (length a.mailbox)

-- a turn runs
abbrev pub is_running : PlainActivation → Bool
is_running a = is_some a.running

-- something waits, and no turn runs
abbrev pub is_ready : PlainActivation → Bool
is_ready a = is_waiting a && not (is_running a)

-- nothing waits and no turn runs
abbrev pub AreIdle : PlainGrains → Type 0
AreIdle grains = (i : ℕ) (d : GrainId × PlainActivation) → i < length grains → ((get_or grains i d).1.mailbox ≡ []) × ((get_or grains i d).1.running ≡ None)

-- The next grain after a given one for which something waits and no turn runs, else the least such.
abbrev pub ready_after : PlainGrains → Option GrainId → Option GrainId
ready_after grains after = next_after grain_lt after (keys_where is_ready grains)

-- the least grain for which a delivery waits, if any
abbrev pub least_waiting : PlainGrains → Option GrainId
least_waiting grains = least grain_lt (keys_where is_waiting grains)

-- the least grain for which a turn runs, if any
abbrev pub least_running : PlainGrains → Option GrainId
least_running grains = least grain_lt (keys_where is_running grains)

-- no grain has two numbers
abbrev pub AreDistinct : PlainGrains → Type 0
AreDistinct grains = (i j : ℕ) (d : GrainId × PlainActivation) → i < length grains → j < length grains → same_grain (get_or grains i d).0 (get_or grains j d).0 ≡ true → i ≡ j
