-- A table with cursors back at their resumes.
use Rattle.subscription_table.proofs.Prelude.{SubState, PlainResumes, ◌≡◌, ◌∙◌, ℕ, ◌+◌, ◌^◌, ◌<◌, Bool, true, false, List, length, get_or, map, if◌then◌else◌, refl, sym, ap, subst, arith, get_or-map, length-map, same_lists}
use Rattle.subscription_table.specs.Rows.{AreRewoundAt}
use Rattle.subscription_table.specs.Standing.{kept_of, IsTable}
use Rattle.subscription_table.specs.Table.{PlainTable, is_in, no_state, rewound_open, state_at}
use Rattle.subscription_table.proofs.TableLemmas.{records-of, stands-at, stands-fitting, Fits}

-- a state that fits another, and of which the same is kept
record Follows (old new : SubState) : Type 0 where
  fits : Fits old new
  leaf : kept_of new ≡ kept_of old

follows-rewound : (s : SubState) → Fits s s → Follows s (rewound_open s)
follows-rewound s stands = record {
  fits = record { start = refl; openness = refl; cursor = by s.live; resume = stands.resume };
  leaf = refl;
}
  where
    by : (b : Bool) → (if b then s.resume else s.cursor) + 2 < 2 ^ 64
    by true = stands.resume
    by false = stands.cursor

follows-if : (b : Bool) (s : SubState) → Fits s s → Follows s (if b then rewound_open s else s)
follows-if true s stands = follows-rewound s stands
follows-if false s stands = record { fits = stands; leaf = refl }

module _ {t : PlainTable} {tags : List ℕ} {r : PlainResumes} (is : IsTable t tags r) (new : List SubState) where
  table-followed : length new ≡ length t.states → ((i : ℕ) → i < length t.states → Fits (state_at t i) (state_at t i) → Follows (state_at t i) (get_or new i no_state)) → IsTable (record t { states = new }) tags r
  table-followed same each = record {
    records = records-of (record t { states = new }) (same ∙ is.records.long) (λ i within.
        let there : i < length t.states = omega (arith, within, same) in
        stands-fitting (follows i there).fits (stands-at is.records i there));
    tagged = is.tagged;
    leaved = is.leaved ∙ same_lists (map kept_of t.states) (map kept_of new) (old_long ∙ sym (length-map new kept_of ∙ same))
        (λ k d within. let there : k < length t.states = omega (arith, old_long) in
        get_or-map kept_of t.states k no_state d there
        ∙ sym (get_or-map kept_of new k no_state d (omega (arith, same)) ∙ (follows k there).leaf));
    ranked = is.ranked;
  }
    where
      old_long : length (map kept_of t.states) ≡ length t.states
      old_long = length-map t.states kept_of

      follows : (i : ℕ) → i < length t.states → Follows (state_at t i) (get_or new i no_state)
      follows i within = each i within (record { start = refl; openness = refl; cursor = is.records.cursors i within; resume = is.records.resumes i within })

  -- all of them
  pub table-rewound : new ≡ map rewound_open t.states → IsTable (record t { states = new }) tags r
  table-rewound rewinds =
      table-followed (ap length rewinds ∙ length-map t.states rewound_open)
      (λ i within stands. subst (Follows (state_at t i)) (sym (ap (λ (states : List SubState). get_or states i no_state) rewinds ∙ get_or-map rewound_open t.states i no_state no_state within))
      (follows-rewound (state_at t i) stands))

  -- those with these numbers
  pub table-rewound_at : (numbers : List ℕ) → AreRewoundAt numbers t.states new → IsTable (record t { states = new }) tags r
  table-rewound_at numbers rewinds =
      table-followed rewinds.long
      (λ i within stands. subst (Follows (state_at t i)) (sym (rewinds.each i within)) (follows-if (is_in numbers i) (state_at t i) stands))
