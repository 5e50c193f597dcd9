-- What holds of each registry.
use Rattle.std.specs.Prelude.{ℕ, ◌≤◌, Contains, length}
use Rattle.stream_ident.specs.declared.ident.StreamId.{StreamId}
use Rattle.stream_ident.specs.declared.ident.SubName.TheVariants as name
use Rattle.stream_ident.specs.declared.limits.TheConstants.{MOST_RULES, MOST_SUBS}
use Rattle.pubsub_registry.specs.Index.{streams_of}
use Rattle.pubsub_registry.specs.Registry.{PlainRegistry}

-- there are no more subscriptions and rules than may be, and no explicit number is above the last one
pub record IsSound (r : PlainRegistry) : Type 0 where
  pub names_fit : length r.names ≤ r.most_names
  pub few_names : r.most_names ≤ MOST_SUBS
  pub rules_fit : length r.rules ≤ r.most_rules
  pub few_rules : r.most_rules ≤ MOST_RULES
  pub numbered : (number : ℕ) (stream : StreamId) → Contains (streams_of r.names) (name.Explicit number, stream) → number ≤ r.explicit
