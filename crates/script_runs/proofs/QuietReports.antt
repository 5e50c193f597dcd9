-- The report of a quiet partition is what its history tells.
use Rattle.script_runs.proofs.Prelude.{◌≡◌, ◌≢◌, ◌∙◌, ap, sym, subst, refl, ℕ, suc, nat_lt, Bool, true, false, ◌&&◌, ◌||◌, not, length, arith, List, [], ◌∷◌, ◌++◌, map, filter, Option, Some, None, is_some, option_map, if◌then◌else◌, false≢true, lt-ltb, not-true, or_parts, append-nil, filter-append, filter_agree, same_Some, AllByRecursion, flat_map, list_any, handled_of, is_named_before, summaries_in_order, summaries_of, summary_of, SubSummary, same_sub-equal, sub_equality, batch_token, is_owed, same_sub, sub_lt, value_at, Event, StreamId, SubName, Rule, RulesDiffer, bound_by_rules, kept-step, records_are_open-from, fits-stands, Binding, binding_of, is_closed, owed_events, published_events, owed_of, sub_at, all_implied, subs_with, Stands, Limits, PlainPartition, Subscription, closed_text, open_text, queue_report, summary_text}
use Rattle.std.proofs.lemmas.Bool.{false_from_ne_true}
use Rattle.std.specs.List.Sorted.{ties}
use Rattle.std.specs.Option.{option_to_list}
use Rattle.stream_ident.specs.declared.ident.SubName.TheVariants as name
use Rattle.stream_ident.proofs.NameOrders.{sub_order}
use Rattle.stream_model.specs.declared.reply.Reply.TheVariants.{IsQuiet}
use Rattle.stream_model.specs.History.{Entry}
use Rattle.stream_model.specs.Looks.{quiet}
use Rattle.stream_laws.proofs.ImpliedRecords.{fold-added-at, found-of-all}
use Rattle.stream_laws.proofs.KeyLists.{All-in_order, each-entry}
use Rattle.stream_laws.proofs.LawsOfEvents.{records_agree-from}
use Rattle.stream_laws.proofs.LawsOfQuiet.{quiet_owes_no_other-from}
use Rattle.stream_laws.proofs.Unique.{AreUnique}
use Rattle.stream_laws.proofs.UniqueSteps.{steady-legal, unique-fold}
use Rattle.step_core.proofs.SortedOnce.{in_order-stable}
use Rattle.step_core.proofs.SummaryLemmas.{named_order}
use Rattle.script_runs.proofs.Made.{IsMadeOf, all-made-of, made-where-owed}
use Rattle.script_runs.proofs.Producers.{producers-tell}
use Rattle.script_runs.proofs.ToldRecords.{any-kept, explicit-told, implicit-owed, implied-record, open-all}
use Rattle.script_runs.proofs.ToldSteps.{told-legal}
use Rattle.script_runs.specs.ScriptLaws.{QuietTellsScript, is_explicit, is_owed_some}
use Rattle.script_runs.specs.ScriptReport.{explicit_subs, implicit_subs, told_report, told_subs, told_text}
use Rattle.script_runs.specs.Told.{producers_entries, rules_of}

-- ---- the summaries of one name

abbrev is_named : SubName → SubSummary → Bool
is_named s sub = same_sub s sub.name

-- summaries tie where they have one name
ties-named : (a b : SubSummary) → ties is_named_before a b ≡ is_named a.name b
ties-named a b = by (same_sub a.name b.name) refl
  where
    rest : (same_sub a.name b.name ≡ false) → (less : Bool) → sub_lt a.name b.name ≡ less → (not less && not (sub_lt b.name a.name)) ≡ false
    rest apart true less = refl
    rest apart false more = ap not (sub_order.rest a.name b.name more apart)

    by : (b' : Bool) → same_sub a.name b.name ≡ b' → ties is_named_before a b ≡ b'
    by true same = let neither = sub_order.apart a.name b.name same in λ i. not (neither.0 i) && not (neither.1 i)
    by false apart = rest apart (sub_lt a.name b.name) refl

-- those that one test keeps, where the other keeps no other
filter-within : {X : Type 0} (p q : X → Bool) → ((x : X) → q x ≡ false → p x ≡ false) → (xs : List X) → filter p (filter q xs) ≡ filter p xs
filter-within p q within [] = refl
filter-within p q within (x ∷ xs) =
    (elim (q x) as (λ b. q x ≡ b → filter p (if b then x ∷ filter q xs else filter q xs) ≡ filter p (x ∷ xs)) [
      | true ↦ λ kept. ap (λ rest. if p x then x ∷ rest else rest) (filter-within p q within xs)
      | false ↦ λ left. filter-within p q within xs ∙ sym (ap (λ b. if b then x ∷ filter p xs else filter p xs) (within x left))
    ]) refl

-- and none of them, where it keeps none of those
filter-none : {X : Type 0} (p q : X → Bool) → ((x : X) → q x ≡ true → p x ≡ false) → (xs : List X) → filter p (filter q xs) ≡ []
filter-none p q none [] = refl
filter-none p q none (x ∷ xs) =
    (elim (q x) as (λ b. q x ≡ b → filter p (if b then x ∷ filter q xs else filter q xs) ≡ []) [
      | true ↦ λ kept. ap (λ b. if b then x ∷ filter p (filter q xs) else filter p (filter q xs)) (none x kept) ∙ filter-none p q none xs
      | false ↦ λ left. filter-none p q none xs
    ]) refl

abbrev is_explicit_one : SubSummary → Bool
is_explicit_one sub = is_explicit sub.name

explicit-within : (number : ℕ) (s : SubName) → is_explicit s ≡ false → same_sub (name.Explicit number) s ≡ false
explicit-within number (name.Explicit other) left = cc
explicit-within number (name.Implicit kind stream) left = refl

explicit-none : (kind : List ℕ) (stream : StreamId) (s : SubName) → is_explicit s ≡ true → same_sub (name.Implicit kind stream) s ≡ false
explicit-none kind stream (name.Explicit other) kept = refl
explicit-none kind stream (name.Implicit own_kind own) kept = cc

-- of entries with one for each name
abbrev named_one : SubName → Option Subscription → List SubSummary
named_one s found = option_to_list (option_map (λ (r : Subscription). summary_of (s, r)) found)

named-once : (s : SubName) (entries : List (SubName × Subscription)) → AreUnique same_sub entries → filter (is_named s) (map summary_of entries) ≡ named_one s (value_at same_sub s entries)
named-once s [] unique = refl
named-once s (entry ∷ entries) unique =
    (elim (same_sub s entry.0) as (λ b. same_sub s entry.0 ≡ b
    → (if b then summary_of entry ∷ filter (is_named s) (map summary_of entries) else filter (is_named s) (map summary_of entries)) ≡ named_one s (if b then Some entry.1 else value_at same_sub s entries)) [
      | true ↦ λ here.
          let same : entry.0 ≡ s = sym (same_sub-equal s entry.0 here) in
          let no_other : value_at same_sub s entries ≡ None = subst (λ k. value_at same_sub k entries ≡ None) same unique.0 in
          (λ i. summary_of (same i, entry.1) ∷ (named-once s entries unique.1 ∙ ap (named_one s) no_other) i)
      | false ↦ λ there. named-once s entries unique.1
    ]) refl

-- a name is among the summaries of entries where it has a value
any-named : (s : SubName) (entries : List (SubName × Subscription)) → list_any (is_named s) (map summary_of entries) ≡ is_some (value_at same_sub s entries)
any-named s [] = refl
any-named s (entry ∷ entries) =
    (elim (same_sub s entry.0) as (λ b. (b || list_any (is_named s) (map summary_of entries)) ≡ is_some (if b then Some entry.1 else value_at same_sub s entries)) [
      | true ↦ refl
      | false ↦ any-named s entries
    ])

some-long : (events : List Event) → (events ≡ [] → ⊥) → nat_lt 0 (length events) ≡ true
some-long [] some = absurd (some refl)
some-long (event ∷ events) some = lt-ltb 0 (suc (length events)) (omega arith)

none-kept : (passes : Event → Bool) (events : List Event) → list_any passes events ≡ false → filter passes events ≡ []
none-kept passes [] none = refl
none-kept passes (event ∷ events) none =
    let parts = or_parts (passes event) (list_any passes events) none in
    ap (λ b. if b then event ∷ filter passes events else filter passes events) parts.0 ∙ none-kept passes events parts.1

-- ---- what holds of each element

All-mapped : {X Y : Type 0} (Q : Y → Type 0) (f : X → Y) (xs : List X) → AllByRecursion (λ (x : X). Q (f x)) xs → AllByRecursion Q (map f xs)
All-mapped Q f [] all = tt
All-mapped Q f (x ∷ xs) all = (all.0, All-mapped Q f xs all.1)

flat_map-same : {X Y : Type 0} (f g : X → List Y) (xs : List X) → AllByRecursion (λ (x : X). f x ≡ g x) xs → flat_map f xs ≡ flat_map g xs
flat_map-same f g [] all = refl
flat_map-same f g (x ∷ xs) all = λ i. all.0 i ++ flat_map-same f g xs all.1 i

-- ---- implicit names

module _ (blocks : ℕ) (limits : Limits) (history : List Entry) (p : PlainPartition) (stands : Stands blocks limits history p) where
  abbrev rules : List Rule
  rules = rules_of history

  abbrev events : List Event
  events = published_events history

  abbrev made : List (SubName × Subscription)
  made = all_implied rules 0 events

  differ : RulesDiffer rules
  differ = subst RulesDiffer (told-legal blocks limits history p stands).rules (fits-stands kept-step blocks limits history p stands).names.differ

  -- what a rule binds a name to
  bound-at : (kind : List ℕ) (stream : StreamId) → binding_of history (name.Implicit kind stream) ≡ bound_by_rules (name.Implicit kind stream) rules
  bound-at kind stream =
      (fits-stands kept-step blocks limits history p stands).names.implied kind stream
      ∙ ap (bound_by_rules (name.Implicit kind stream)) (told-legal blocks limits history p stands).rules

  each-made : (s : SubName) (r : Subscription) → value_at same_sub s made ≡ Some r → IsMadeOf rules 0 events (s, r)
  each-made s r found = found-of-all (IsMadeOf rules 0 events) s r made (all-made-of rules 0 events events (λ passes any. any) differ) found

  bound-made : (kind : List ℕ) (stream : StreamId) (r : Subscription) (one : IsMadeOf rules 0 events (name.Implicit kind stream, r)) → binding_of history (name.Implicit kind stream) ≡ Some (record { stream = one.stream; start = batch_token one.from })
  bound-made kind stream r one = bound-at kind stream ∙ (ap (λ s. bound_by_rules s rules) one.name ∙ one.bound)

  made-owed : (kind : List ℕ) (stream : StreamId) (r : Subscription) → value_at same_sub (name.Implicit kind stream) made ≡ Some r → owed_events history (name.Implicit kind stream) ≢ []
  made-owed kind stream r found none =
      let one = each-made (name.Implicit kind stream) r found in
      any-kept (λ event. is_owed one.stream (batch_token one.from) event) events one.owed (sym (ap (owed_of events) (bound-made kind stream r one)) ∙ none)

  same-summary : (kind : List ℕ) (stream : StreamId) (r now : Subscription) → sub_at p (name.Implicit kind stream) ≡ Some r → value_at same_sub (name.Implicit kind stream) made ≡ Some now
      → summary_of (name.Implicit kind stream, now) ≡ summary_of (name.Implicit kind stream, r)
  same-summary kind stream r now found is =
      let s : SubName = name.Implicit kind stream in
      let one = each-made s now is in
      let owed = implicit-owed blocks limits history p stands kind stream r found in
      let bound = (records_agree-from kept-step blocks limits history p stands s r found).1 in
      let binding = same_Some _ _ (sym (bound-made kind stream now one) ∙ bound) in
      let named : name.Implicit kind stream ≡ name.Implicit one.kind one.stream = one.name in
      let same_kind : one.kind ≡ kind = cc in
      let same_stream : one.stream ≡ stream = cc in
      let grain : record { kind = one.kind; key = one.stream.key } ≡ r.grain = (λ i. record { kind = same_kind i; key = (same_stream i).key }) ∙ sym owed.grain in
      ap (λ (r : Subscription). summary_of (s, r)) one.value
      ∙ (λ i. record { name = s; stream = (binding i).stream; grain = grain i; start = (binding i).start; is_open = sym owed.is_open i })

  -- the rules make a name of what was published exactly where it has a record, and then the same summary
  named-made : quiet p ≡ IsQuiet → (kind : List ℕ) (stream : StreamId) (o m : Option Subscription) → sub_at p (name.Implicit kind stream) ≡ o → value_at same_sub (name.Implicit kind stream) made ≡ m
      → named_one (name.Implicit kind stream) m ≡ named_one (name.Implicit kind stream) o
  named-made is_quiet kind stream None None none is = refl
  named-made is_quiet kind stream None (Some now) none is =
      absurd (made-owed kind stream now is (quiet_owes_no_other-from kept-step blocks limits history p stands is_quiet kind stream none))
  named-made is_quiet kind stream (Some r) (Some now) found is = ap (λ sub. sub ∷ []) (same-summary kind stream r now found is)
  named-made is_quiet kind stream (Some r) None found is =
      let s : SubName = name.Implicit kind stream in
      let bound = (records_agree-from kept-step blocks limits history p stands s r found).1 in
      let owed = (implied-record blocks limits history p stands s r found).1 in
      absurd (false≢true (ap is_some (sym is) ∙ made-where-owed s rules 0 (record { stream = r.stream; start = r.start }) events (sym (bound-at kind stream) ∙ bound) owed))

  implicit-named : quiet p ≡ IsQuiet → (kind : List ℕ) (stream : StreamId)
      → filter (is_named (name.Implicit kind stream)) (implicit_subs history) ≡ filter (is_named (name.Implicit kind stream)) (summaries_of p)
  implicit-named is_quiet kind stream =
      named-once (name.Implicit kind stream) (subs_with rules 0 [] events) (unique-fold [] made tt)
      ∙ (ap (named_one (name.Implicit kind stream)) (fold-added-at (name.Implicit kind stream) [] made)
      ∙ (named-made is_quiet kind stream (sub_at p (name.Implicit kind stream)) (value_at same_sub (name.Implicit kind stream) made) refl refl
      ∙ sym (named-once (name.Implicit kind stream) p.subs (steady-legal blocks limits history p stands).subs)))

  -- no explicit name is made
  explicit-unmade : (number : ℕ) (o : Option Subscription) → value_at same_sub (name.Explicit number) made ≡ o → o ≡ None
  explicit-unmade number None is = refl
  explicit-unmade number (Some r) is = let one = each-made (name.Explicit number) r is in let name = one.name in cc

  explicit-named : (number : ℕ) → filter (is_named (name.Explicit number)) (implicit_subs history) ≡ []
  explicit-named number =
      named-once (name.Explicit number) (subs_with rules 0 [] events) (unique-fold [] made tt)
      ∙ ap (named_one (name.Explicit number)) (fold-added-at (name.Explicit number) [] made ∙ explicit-unmade number (value_at same_sub (name.Explicit number) made) refl)

  -- a name is among them exactly where it is owed an event
  owed-some : (kind : List ℕ) (stream : StreamId) (o : Option Subscription) → value_at same_sub (name.Implicit kind stream) made ≡ o → is_some o ≡ is_owed_some history (name.Implicit kind stream)
  owed-some kind stream (Some r) found =
      sym (some-long (owed_events history (name.Implicit kind stream)) (made-owed kind stream r found))
  owed-some kind stream None found = by (binding_of history (name.Implicit kind stream)) refl
    where
      by : (o : Option Binding) → binding_of history (name.Implicit kind stream) ≡ o → false ≡ is_owed_some history (name.Implicit kind stream)
      by None unbound = sym (ap (λ o. nat_lt 0 (length (owed_of events o))) unbound)
      by (Some b) bound =
          let none = none-kept (λ event. is_owed b.stream b.start event) events (false_from_ne_true _ (λ owed. false≢true (ap is_some (sym found) ∙ made-where-owed (name.Implicit kind stream) rules 0 b events (sym (bound-at kind stream) ∙ bound) owed))) in
          sym (ap (λ o. nat_lt 0 (length (owed_of events o))) bound ∙ ap (λ (owed : List Event). nat_lt 0 (length owed)) none)

  pub told-where-owed : (s : SubName) → list_any (λ (sub : SubSummary). same_sub s sub.name) (implicit_subs history) ≡ is_owed_some history s
  told-where-owed s =
      any-named s (subs_with rules 0 [] events) ∙ (ap is_some (fold-added-at s [] made) ∙ by s)
    where
      by : (s : SubName) → is_some (value_at same_sub s made) ≡ is_owed_some history s
      by (name.Explicit number) = ap is_some (explicit-unmade number (value_at same_sub (name.Explicit number) made) refl)
      by (name.Implicit kind stream) = owed-some kind stream (value_at same_sub (name.Implicit kind stream) made) refl

  -- ---- all names

  told-named : quiet p ≡ IsQuiet → (s : SubName) → filter (is_named s) (summaries_of p) ≡ filter (is_named s) (explicit_subs history) ++ filter (is_named s) (implicit_subs history)
  told-named is_quiet (name.Explicit number) =
      sym (filter-within (is_named (name.Explicit number)) is_explicit_one (λ sub left. explicit-within number sub.name left) (summaries_of p))
      ∙ (ap (filter (is_named (name.Explicit number))) (explicit-told blocks limits history p stands)
      ∙ (sym (append-nil (filter (is_named (name.Explicit number)) (explicit_subs history)))
      ∙ ap (λ rest. filter (is_named (name.Explicit number)) (explicit_subs history) ++ rest) (sym (explicit-named number))))
  told-named is_quiet (name.Implicit kind stream) =
      sym (implicit-named is_quiet kind stream)
      ∙ ap (λ first. first ++ filter (is_named (name.Implicit kind stream)) (implicit_subs history))
      (sym (ap (filter (is_named (name.Implicit kind stream))) (sym (explicit-told blocks limits history p stands))
      ∙ filter-none (is_named (name.Implicit kind stream)) is_explicit_one (λ sub kept. explicit-none kind stream sub.name kept) (summaries_of p)))

  told-stable : quiet p ≡ IsQuiet → (z : SubSummary) → filter (ties is_named_before z) (summaries_of p) ≡ filter (ties is_named_before z) (explicit_subs history ++ implicit_subs history)
  told-stable is_quiet z =
      filter_agree (ties is_named_before z) (is_named z.name) (ties-named z) (summaries_of p)
      ∙ (told-named is_quiet z.name
      ∙ (sym (filter-append (is_named z.name) (explicit_subs history) (implicit_subs history))
      ∙ sym (filter_agree (ties is_named_before z) (is_named z.name) (ties-named z) (explicit_subs history ++ implicit_subs history))))

  pub told-in-order : quiet p ≡ IsQuiet → summaries_in_order p ≡ told_subs history
  told-in-order is_quiet = in_order-stable is_named_before named_order (explicit_subs history ++ implicit_subs history) (summaries_of p) (told-stable is_quiet)

  -- ---- the text

  abbrev TellsText : ℕ → SubSummary → Type 0
  TellsText queue sub = summary_text queue p sub ≡ told_text queue history sub

  record-text : quiet p ≡ IsQuiet → (queue : ℕ) (s : SubName) (r : Subscription) → sub_at p s ≡ Some r → TellsText queue (summary_of (s, r))
  record-text is_quiet queue s r found =
      (elim r.is_open as (λ b. r.is_open ≡ b
      → (if b then open_text queue (summary_of (s, r)) (handled_of p s) else closed_text queue s) ≡ (if b then open_text queue (summary_of (s, r)) (owed_events history s) else closed_text queue s)) [
        | true ↦ λ is_open.
            let opened = (records_are_open-from kept-step blocks limits history p stands s r found).0 in
            ap (open_text queue (summary_of (s, r))) (open-all blocks limits history p stands is_quiet s (not-true (is_closed history s) (sym opened ∙ is_open)))
        | false ↦ λ closed. refl
      ]) refl

  pub report-told : quiet p ≡ IsQuiet → (queue : ℕ) → queue_report queue p ≡ told_report queue history
  report-told is_quiet queue =
      flat_map-same (summary_text queue p) (told_text queue history) (summaries_in_order p)
      (All-in_order (TellsText queue) is_named_before (summaries_of p)
      (All-mapped (TellsText queue) summary_of p.subs
      (each-entry same_sub sub_equality (λ s r. TellsText queue (summary_of (s, r))) p.subs (steady-legal blocks limits history p stands).subs (record-text is_quiet queue))))
      ∙ ap (flat_map (told_text queue history)) (told-in-order is_quiet)

-- the producers' entries tell the same report
report-same : (queue : ℕ) (history : List Entry) → told_report queue (producers_entries history) ≡ told_report queue history
report-same queue history = λ i.
    flat_map
    (λ (sub : SubSummary). if sub.is_open then open_text queue sub (producers-tell.owed history sub.name i) else closed_text queue sub.name)
    (producers-tell.subs history i)

pub script-told : QuietTellsScript
script-told blocks limits history p stands is_quiet queue missed script told =
    report-told blocks limits history p stands is_quiet queue ∙ (sym (report-same queue history) ∙ ap (told_report queue) told)
