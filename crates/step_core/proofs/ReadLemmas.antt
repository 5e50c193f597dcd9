-- What is read of one record.
use Rattle.step_core.proofs.Prelude.{◌≡◌, ◌∙◌, ap, sym, refl, ℕ, pred, ◌-◌, List, [], ◌∷◌, length, Option, Some, None, nat_lt, arith, lt-ltb, slice_get, slice_get-get_or, if◌then◌else◌, option_map, past, past-last, SubName, handled-in, AreIn, IsWithinLimits, last_handled, sub_at, token_at, Subscription, AreRecords, no_entry, no_state}
use Rattle.subscription_table.specs.Table.{number_of}
use Rattle.step_core.specs.declared.parts.Parts.{Parts}
use Rattle.step_core.specs.PlainOf.{plain_of}
use Rattle.step_core.specs.Reads.{handled_positions, positions_by}
use Rattle.step_core.proofs.RecordOps.{no-record, record-found, record_at}

pub found-sub : (parts : Parts) (s : SubName) (number : ℕ) → AreRecords parts.subs → number_of parts.subs s ≡ Some number → sub_at (plain_of parts) s ≡ Some (record_at parts number no_entry no_state)
found-sub parts s number records found = record-found parts s number no_entry no_state (sym records.long) found

pub found-none : (parts : Parts) (s : SubName) → AreRecords parts.subs → number_of parts.subs s ≡ None → sub_at (plain_of parts) s ≡ None
found-none parts s records none = no-record parts s (sym records.long) none

pub handled-within : (parts : Parts) (s : SubName) (number : ℕ) → IsWithinLimits (plain_of parts) → AreRecords parts.subs → number_of parts.subs s ≡ Some number → AreIn parts.queue.events (record_at parts number no_entry no_state).handled
handled-within parts s number within records found = handled-in (plain_of parts) s (record_at parts number no_entry no_state) within (found-sub parts s number records found)

-- the token of the last event that is handled
last-is : (parts : Parts) (found : Option Subscription) → option_map (token_at (plain_of parts)) (slice_get (positions_by found) (length (positions_by found) - 1)) ≡ last_handled (plain_of parts) found
last-is parts None = refl
last-is parts (Some r) = by r.handled
  where
    by : (positions : List ℕ) → option_map (token_at (plain_of parts)) (slice_get positions (length positions - 1)) ≡ (if nat_lt 0 (length positions) then Some (token_at (plain_of parts) (pred (past positions))) else None)
    by [] = refl
    by (position ∷ positions) =
        let xs = position ∷ positions in
        rw (lt-ltb 0 (length xs) (omega arith), slice_get-get_or xs (length xs - 1) 0 (omega arith), past-last xs (omega arith)) refl

pub last-told : (parts : Parts) (s : SubName) (positions : List ℕ) (last : Option ℕ) → positions ≡ handled_positions (plain_of parts) s → last ≡ slice_get positions (length positions - 1)
    → option_map (token_at (plain_of parts)) last ≡ last_handled (plain_of parts) (sub_at (plain_of parts) s)
last-told parts s positions last are is =
    ap (option_map (token_at (plain_of parts))) (is ∙ ap (λ (xs : List ℕ). slice_get xs (length xs - 1)) are) ∙ last-is parts (sub_at (plain_of parts) s)
