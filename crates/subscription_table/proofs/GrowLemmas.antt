-- A table with more subscriptions, which have handled nothing.
use Rattle.subscription_table.proofs.Prelude.{new_state, SubState, PlainRegistry, add, add_with, next_number, registered, truncated, tag_of, ranked-insert, open_leaf, pushed, PlainResumes, AreRanked, IsFirstPast, Leaf, ◌≡◌, ◌∙◌, ℕ, ◌+◌, ◌-◌, ◌^◌, ◌<◌, ◌≤◌, ◌⊎◌, inl, inr, Bool, true, false, List, [], ◌∷◌, ◌++◌, length, get_or, map, take, drop, None, Some, if◌then◌else◌, refl, sym, ap, subst, arith, length-append, cases_lt, append-nil, append_assoc, drop_at, get_or-append_right, get_or-map, get_or_append_left, length-map, map-append, take-append-le, take_at, fold, sub_order, same_sub, sub_lt, value_at, StreamId, Token}
use Rattle.std.specs.Prelude.{is_some, nat_lt}
use Rattle.std.specs.List.{AllByRecursion}
use Rattle.std.proofs.lemmas.List.Elements.{All-from_recursion}
use Rattle.std.proofs.lemmas.Map.{none_passes_from_lookup}
use Rattle.stream_ident.specs.declared.event.Event.{Event}
use Rattle.stream_ident.specs.declared.ident.GrainId.{GrainId}
use Rattle.stream_ident.specs.declared.ident.SubName.TheVariants as name
use Rattle.stream_ident.specs.declared.rule.Rule.{Rule}
use Rattle.pubsub_registry.specs.declared.told.Added.{Added}
use Rattle.pubsub_registry.specs.declared.told.Implied.{Implied}
use Rattle.pubsub_registry.specs.declared.told.Implied.TheVariants as implied_told
use Rattle.stream_ident.specs.Implying.{added}
use Rattle.stream_ident.proofs.WordLemmas.{All-at}
use Rattle.pubsub_registry.proofs.ImpliedSound.{All-implied}
use Rattle.pubsub_registry.specs.Implying.{all_implied, imply, names_with}
use Rattle.subscription_table.specs.Rows.{new_leaves, AreAllNamed, AreNamed}
use Rattle.subscription_table.specs.Standing.{kept_of, name_of, tags_of, AreRecords, IsTable}
use Rattle.subscription_table.specs.Table.{PlainTable, new_states, no_entry, no_state}
use Rattle.subscription_table.proofs.LeafLemmas.{Entry, Names, kept-new_states}
use Rattle.subscription_table.proofs.TableLemmas.{records-of, stands-at, Stands}

abbrev pub IsOpen : Entry → Type 0
IsOpen entry = entry.1.is_open ≡ true

abbrev pub AreOpen : Names → Type 0
AreOpen names = AllByRecursion IsOpen names

-- each name and its state, with those of more names
each-grown : (names more : Names) (states : List SubState) (position : ℕ) → length states ≡ length names
    → ((i : ℕ) → i < length states → Stands (get_or names i no_entry) (get_or states i no_state))
    → ((j : ℕ) → j < length more → Stands (get_or more j no_entry) (new_state (get_or more j no_entry).1.start position))
    → (i : ℕ) → i < length (states ++ new_states position more) → Stands (get_or (names ++ more) i no_entry) (get_or (states ++ new_states position more) i no_state)
each-grown names more states position long old new i within = by (cases_lt i (length states))
  where
    by : (i < length states) ⊎ (length states ≤ i) → Stands (get_or (names ++ more) i no_entry) (get_or (states ++ new_states position more) i no_state)
    by (inl left) =
        subst (λ (e : Entry). Stands e (get_or (states ++ new_states position more) i no_state)) (sym (get_or_append_left names more no_entry i (omega arith)))
        (subst (Stands (get_or names i no_entry)) (sym (get_or_append_left states (new_states position more) no_state i left)) (old i left))
    by (inr right) =
        let there : i - length states < length more = omega (arith, length-append states (new_states position more), length-map more (λ (entry : Entry). new_state entry.1.start position)) in
        subst (λ (e : Entry). Stands e (get_or (states ++ new_states position more) i no_state)) (sym (get_or-append_right names more (length states) i no_entry (sym long) right))
        (subst (Stands (get_or more (i - length states) no_entry))
        (sym (get_or-append_right states (new_states position more) (length states) i no_state refl right ∙ get_or-map (λ (entry : Entry). new_state entry.1.start position) more (i - length states) no_entry no_state there))
        (new (i - length states) there))

-- names with open ones behind them
pub record IsGrown (old new : Names) : Type 0 where
  pub more : Names
  pub is : new ≡ old ++ more
  pub opened : AreOpen more

module _ {t : PlainTable} {tags : List ℕ} {kept : PlainResumes} (is : IsTable t tags kept) (r : PlainRegistry) (more : Names) (names : r.names ≡ t.registry.names ++ more) (opened : AreOpen more) (position : ℕ) (room : position + 2 < 2 ^ 64) where
  records-grown : AreRecords (record { registry = r; states = t.states ++ new_states position more })
  records-grown =
      records-of (record { registry = r; states = t.states ++ new_states position more })
      (omega (arith, length-append t.states (new_states position more), length-map more (λ (entry : Entry). new_state entry.1.start position), ap length names, length-append t.registry.names more, is.records.long))
      (λ i low. subst (λ (all : Names). Stands (get_or all i no_entry) (get_or (t.states ++ new_states position more) i no_state)) (sym names)
      (each-grown t.registry.names more t.states position is.records.long (stands-at is.records) (λ j there. record { start = refl; openness = sym (All-at IsOpen more j no_entry opened there); cursor = room; resume = room }) i low))

  -- the rows with those of the new names
  table-grown : {states : List SubState} {new_tags : List ℕ} {new : PlainResumes} → states ≡ t.states ++ new_states position more → new_tags ≡ tags ++ tags_of more → new.leaves ≡ kept.leaves ++ new_leaves position more
      → AreRanked name_of sub_lt r.names new.order → IsTable (record { registry = r; states = states }) new_tags new
  table-grown stated tagged leaved ranked = record {
    records = subst (λ (all : List SubState). AreRecords (record { registry = r; states = all })) (sym stated) records-grown;
    tagged = tagged ∙ ap (λ (old : List ℕ). old ++ tags_of more) is.tagged
        ∙ sym (ap tags_of names ∙ map-append (λ (entry : Entry). _) t.registry.names more);
    leaved = leaved ∙ ap (λ (old : List Leaf). old ++ new_leaves position more) is.leaved
        ∙ ap (λ (new : List Leaf). map kept_of t.states ++ new) (sym (kept-new_states position more))
        ∙ sym (ap (map kept_of) stated ∙ map-append kept_of t.states (new_states position more));
    ranked = ranked;
  }

nothing-grown : (names : Names) → IsGrown names names
nothing-grown names = record { more = []; is = sym (append-nil names); opened = tt }

one-grown : (entry : Entry) (old new : Names) → entry.1.is_open ≡ true → IsGrown (old ++ entry ∷ []) new → IsGrown old new
one-grown entry old new first rest = record {
  more = entry ∷ rest.more;
  is = rest.is ∙ append_assoc old (entry ∷ []) rest.more;
  opened = (first, rest.opened);
}

names-grown : (entries old : Names) → AreOpen entries → IsGrown old (fold added old entries)
names-grown [] old opened = nothing-grown old
names-grown (entry ∷ entries) old opened =
    by (is_some (value_at same_sub entry.0 old)) (names-grown entries old opened.1)
    (one-grown entry old (fold added (old ++ entry ∷ []) entries) opened.0 (names-grown entries (old ++ entry ∷ []) opened.1))
  where
    by : (b : Bool) → IsGrown old (fold added old entries) → IsGrown old (fold added (old ++ entry ∷ []) entries) → IsGrown old (fold added (if b then old else old ++ entry ∷ []) entries)
    by true there new = there
    by false there new = new

-- rules make open subscriptions
pub implied-grown : (rules : List Rule) (names : Names) (events : List Event) → IsGrown names (names_with rules names events)
implied-grown rules names events = names-grown (all_implied rules events) names (All-implied IsOpen (λ event rule. refl) rules events)

-- a registry that rules added to, which has its old names in front
pub record Implies (old new : PlainRegistry) : Type 0 where
  pub grown : IsGrown old.names new.names
  pub back : truncated new (length old.names) ≡ old

pub implies : (old new : PlainRegistry) (events : List Event) (told : Implied) → ◌≡◌ {A = PlainRegistry × Implied} (new, told) (imply old events) → Implies old new
implies old new events told is = by (nat_lt old.most_names (length (names_with old.rules old.names events))) is
  where
    back : (names : Names) → IsGrown old.names names → new ≡ record old { names = names } → Implies old new
    back names grown same = subst (Implies old) (sym same)
        (record { grown = grown; back = ap (λ (names : Names). record old { names = names }) (ap (take (length old.names)) grown.is ∙ take_at old.names grown.more (length old.names) refl) })

    by : (b : Bool) → ◌≡◌ {A = PlainRegistry × Implied} (new, told) (if b then (old, implied_told.TooMany) else (record old { names = names_with old.rules old.names events }, implied_told.Implied)) → Implies old new
    by true is = back old.names (nothing-grown old.names) (ap (λ (r : PlainRegistry × Implied). r.0) is)
    by false is = back _ (implied-grown old.rules old.names events) (ap (λ (r : PlainRegistry × Implied). r.0) is)

-- what the first names are, also where more names stand behind
pub named-grown : (r : PlainResumes) (old new : Names) → AreNamed r old → IsGrown old new → AreNamed r new
named-grown r old new named grown = record {
  within = omega (arith, named.within, ap length grown.is, length-append old grown.more);
  ranked = subst (λ (all : Names). AreRanked name_of sub_lt all r.order) (sym (ap (take (length r.leaves)) grown.is ∙ take-append-le (length r.leaves) old grown.more named.within)) named.ranked;
}

-- what is behind the old names
pub grown-rest : (old new : Names) (grown : IsGrown old new) (len : ℕ) → len ≡ length old → drop len new ≡ grown.more
grown-rest old new grown len is = ap (drop len) grown.is ∙ drop_at old grown.more len (sym is)

module _ {t : PlainTable} {tags : List ℕ} {r : PlainResumes} (is : IsTable t tags r) (position : ℕ) (room : position + 2 < 2 ^ 64) where
  -- all that the rules made
  pub table-implied : {new : PlainRegistry} → Implies t.registry new → {states : List SubState} {new_tags : List ℕ} {new_r : PlainResumes}
      → states ≡ t.states ++ new_states position (drop (length t.states) new.names) → new_tags ≡ tags ++ tags_of (drop (length t.states) new.names)
      → AreAllNamed position r new_r new.names → IsTable (record { registry = new; states = states }) new_tags new_r
  table-implied {new} implies stated tagged named =
      let more = implies.grown.more in
      let rest : drop (length t.states) new.names ≡ more = grown-rest t.registry.names new.names implies.grown (length t.states) is.records.long in
      let leaves : length r.leaves ≡ length t.registry.names = ap length is.leaved ∙ length-map t.states kept_of ∙ is.records.long in
      table-grown is new more implies.grown.is implies.grown.opened position room (stated ∙ ap (λ (names : Names). t.states ++ new_states position names) rest) (tagged ∙ ap (λ (names : Names). tags ++ tags_of names) rest)
      (named.leaves ∙ ap (λ (names : Names). r.leaves ++ new_leaves position names) (grown-rest t.registry.names new.names implies.grown (length r.leaves) leaves)) named.ranked

  -- one that a grain made
  pub table-subscribed : (new : PlainRegistry) (stream : StreamId) (grain : GrainId) (start : Token) (told : Added) (number rank : ℕ) → next_number t.registry ≡ Some number → ◌≡◌ {A = PlainRegistry × Added} (new, told) (add t.registry stream grain start)
      → value_at same_sub (name.Explicit number) t.registry.names ≡ None → IsFirstPast name_of sub_lt (Some (name.Explicit number)) t.registry.names r.order rank
      → {states : List SubState} {new_tags : List ℕ} {new_r : PlainResumes} → states ≡ t.states ++ new_state start position ∷ [] → new_tags ≡ tags ++ tag_of stream ∷ []
      → new_r ≡ pushed rank (open_leaf position) r → IsTable (record { registry = new; states = states }) new_tags new_r
  table-subscribed new stream grain start told number rank given adds none first stated tagged pushes =
      let entry : Entry = (name.Explicit number, registered stream grain start) in
      let names : new.names ≡ t.registry.names ++ entry ∷ [] =
      ap (λ (out : PlainRegistry × Added). out.0.names) (adds ∙ ap {B = PlainRegistry × Added} (add_with t.registry stream grain start) given) in
      table-grown is new (entry ∷ []) names (refl, tt) position room stated tagged (ap (λ (r : PlainResumes). r.leaves) pushes)
      (rw (pushes, names) (ranked-insert t.registry.names r.order rank entry is.ranked.long is.ranked.ranking first.within name_of sub_lt same_sub sub_order is.ranked first
      (λ d i inside. All-from_recursion (λ (e : Entry). same_sub entry.0 e.0 ≡ false) t.registry.names (none_passes_from_lookup (same_sub entry.0) t.registry.names none) i d inside)))
