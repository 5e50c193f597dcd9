-- The names of subscriptions and the rules of a partition, as plain data, and what each call does to them.
use Rattle.std.specs.Prelude.{◌≡◌, ℕ, suc, ◌^◌, Bool, true, false, ◌&&◌, ◌||◌, List, [], ◌∷◌, ◌++◌, length, take, filter, Contains, Option, Some, None, nat_le, if◌then◌else◌}
use Rattle.std.specs.List.{list_any}
use Rattle.stream_ident.specs.declared.ident.GrainId.{GrainId}
use Rattle.stream_ident.specs.declared.ident.StreamId.{StreamId}
use Rattle.stream_ident.specs.declared.ident.SubName.{SubName}
use Rattle.stream_ident.specs.declared.ident.SubName.TheVariants as name
use Rattle.stream_ident.specs.declared.rule.Rule.{Rule}
use Rattle.stream_ident.specs.declared.token.Token.{Token}
use Rattle.stream_ident.specs.Event.{batch_token}
use Rattle.stream_ident.specs.Name.{same_name, same_stream}
use Rattle.stream_ident.specs.SubName.{same_sub, sub_lt}
use Rattle.stream_ident.specs.Words.{value_at, changed_value}
use Rattle.pubsub_registry.specs.declared.registration.Registration.{Registration}
use Rattle.pubsub_registry.specs.declared.told.Added.{Added}
use Rattle.pubsub_registry.specs.declared.told.Added.TheVariants as add_told
use Rattle.pubsub_registry.specs.declared.told.Implied.{Implied}
use Rattle.pubsub_registry.specs.declared.told.Implied.TheVariants as implied_told
use Rattle.pubsub_registry.specs.declared.told.Closing.{Closing}
use Rattle.pubsub_registry.specs.declared.told.Closing.TheVariants as close_told
use Rattle.pubsub_registry.specs.declared.told.RuleAdded.{RuleAdded}
use Rattle.pubsub_registry.specs.declared.told.RuleAdded.TheVariants as rule_told

-- the registrations by name, in the order in which they were made, the number of the last explicit one,
-- the rules in the order in which they were added, and how many of each there may be
pub record PlainRegistry : Type 0 where
  pub names : List (SubName × Registration)
  pub explicit : ℕ
  pub rules : List Rule
  pub most_names : ℕ
  pub most_rules : ℕ

-- a registry with no name and no rule
abbrev pub empty : ℕ → ℕ → PlainRegistry
empty most_names most_rules = record { names = []; explicit = 0; rules = []; most_names = most_names; most_rules = most_rules }

-- the registration of a name
abbrev pub registration_of : PlainRegistry → SubName → Option Registration
registration_of r s = value_at same_sub s r.names

-- an open one
abbrev pub registered : StreamId → GrainId → Token → Registration
registered stream grain start = record { stream = stream; grain = grain; start = start; is_open = true }

-- what stands for a subscription where there is none
abbrev pub no_entry : SubName × Registration
no_entry = (name.Explicit 0, registered (record { namespace = []; key = [] }) (record { kind = []; key = [] }) (batch_token 0))

abbrev pub with_name : PlainRegistry → SubName → Registration → PlainRegistry
with_name r s registration = record r { names = r.names ++ (s, registration) ∷ [] }

-- No further name may be added. Closed ones and implicit ones count too.
abbrev pub is_full : PlainRegistry → Bool
is_full r = nat_le r.most_names (length r.names)

-- The number of the next explicit subscription: explicit numbers are 1, 2, 3 and so on. There is none where there are as
-- many subscriptions as there may be, or no number is left that fits into 32 bits.
abbrev pub next_number : PlainRegistry → Option ℕ
next_number r = if is_full r || nat_le (2 ^ 32) (suc r.explicit) then None else Some (suc r.explicit)

abbrev pub add_with : PlainRegistry → StreamId → GrainId → Token → Option ℕ → PlainRegistry × Added
add_with r stream grain start None = (r, add_told.TooMany)
add_with r stream grain start (Some number) =
    (record (with_name r (name.Explicit number) (registered stream grain start)) { explicit = number }, add_told.Added number)

-- an explicit subscription more, with the next number, or a refusal where there are too many
abbrev pub add : PlainRegistry → StreamId → GrainId → Token → PlainRegistry × Added
add r stream grain start = add_with r stream grain start (next_number r)

-- an implicit subscription more, which the grain of the kind with the stream's key consumes, or a refusal
-- where there are too many
abbrev pub add_implied : PlainRegistry → List ℕ → StreamId → Token → PlainRegistry × Implied
add_implied r kind stream start =
    if is_full r then (r, implied_told.TooMany)
    else (
      with_name r (name.Implicit kind stream) (registered stream (record { kind = kind; key = stream.key }) start),
      implied_told.Implied,
    )

abbrev pub closed_registration : Registration → Registration
closed_registration registration = record registration { is_open = false }

abbrev pub close_found : PlainRegistry → SubName → Option Registration → PlainRegistry × Closing
close_found r s None = (r, close_told.NoSuch)
close_found r (name.Implicit kind stream) (Some registration) = (r, close_told.Implicit)
close_found r (name.Explicit number) (Some registration) =
    if registration.is_open then (record r { names = changed_value same_sub (name.Explicit number) closed_registration r.names }, close_told.Done)
    else (r, close_told.Closed)

-- an explicit subscription is closed, or the answer says why not
abbrev pub close : PlainRegistry → SubName → PlainRegistry × Closing
close r s = close_found r s (registration_of r s)

-- Only the first registrations are left. The explicit numbers stay given.
abbrev pub truncated : PlainRegistry → ℕ → PlainRegistry
truncated r n = record r { names = take n r.names }

-- a rule more, or a refusal where there are too many; one that is there already stays as it is
abbrev pub add_rule : PlainRegistry → List ℕ → List ℕ → ℕ → PlainRegistry × RuleAdded
add_rule r kind namespace seq =
    if list_any (λ (rule : Rule). same_name kind rule.kind && same_name namespace rule.namespace) r.rules then (r, rule_told.RuleThere)
    else if nat_le r.most_rules (length r.rules) then (r, rule_told.TooMany)
    else (record r { rules = r.rules ++ record { kind = kind; namespace = namespace; from = seq } ∷ [] }, rule_told.Added)

-- the rules on a stream's namespace, in the order in which they were added
abbrev pub rules_on : PlainRegistry → StreamId → List Rule
rules_on r stream = filter (λ (rule : Rule). same_name stream.namespace rule.namespace) r.rules

-- the name is one of the stream's
abbrev pub IsOf : PlainRegistry → StreamId → SubName → Type 0
IsOf r stream s = (registration : Registration) × (Contains r.names (s, registration) × (same_stream stream registration.stream ≡ true))

abbrev pub Rises : List SubName → Type 0
Rises names = (before after : List SubName) (a b : SubName) → names ≡ before ++ a ∷ (b ∷ after) → sub_lt a b ≡ true

-- exactly a stream's subscriptions, closed ones too, by name
pub record AreSubsOf (r : PlainRegistry) (stream : StreamId) (names : List SubName) : Type 0 where
  pub rising : Rises names
  pub theirs : (s : SubName) → Contains names s → IsOf r stream s
  pub complete : (s : SubName) → IsOf r stream s → Contains names s
