-- Each step on the words of a turnstile keeps its rule, and tells what it says.
use Rattle.turnstile.proofs.Prelude.{set_again, TableId, ◌≡◌, ℕ, ◌+◌, ◌%◌, ◌<◌, ◌≤◌, eqb, eq-eqb, ne_eqb, Bool, true, false, List, [], ◌∷◌, ◌++◌, length, get_or, set, drop, Option, Some, refl, sym, ap, ◌∙◌, subst, arith, same_Some, get_elem?, dite, some-injective, ℕ_discrete}
use Rattle.std.proofs.Math.Nat.{mod-add-mod}
use mathlib.Core.Option as maybe
use prog.Atomic.{either}
use Rattle.atomic_table.specs.Table.{State, Step, step, Act, keeps, takes, gives, put_back, homes_after, carried_after, Valid, Allows, Splits, Joins, opening, Final, Seen}
use Rattle.turnstile.specs.declared.history.Entry.{Entry}
use Rattle.turnstile.specs.declared.view.Held.{Held}
use Rattle.turnstile.specs.declared.view.Start.{Start}
use Rattle.turnstile.specs.declared.view.View.{View}
use Rattle.turnstile.specs.Closing.{IsTrace}
use Rattle.turnstile.specs.History.{times, replay, Own, Claims}
use Rattle.turnstile.specs.Passes.{pass_view}
use Rattle.turnstile.specs.Plays.{Sat, items_of, first_of, drew, looked, noted, left, numbered, counted, told}
use Rattle.turnstile.specs.Turns.{opening_view, spent_view, unnumbered, joined, AtHome, Stands, Turning}
use Rattle.turnstile.proofs.Stands as stands

module _ {X H S O R : Type 0} (entries : H → List (Entry O R)) (state : X → S) (reply : S → O → R) (after : S → O → S) (start : Start S) where
  abbrev Homes : Type 0
  Homes = List (maybe.Option (Option (Held X H)))

  abbrev Views : Type 0
  Views = List (View S O R)

  abbrev Log : Type 0
  Log = List (Entry O R)

  abbrev M : Type 0
  M = Sat X H S O R

  abbrev Slot : Type 0
  Slot = Option (Held X H)

  abbrev Rule : ℕ → ℕ → ℕ → Log → Homes → Views → Type 0
  Rule = Stands entries state reply after start

  abbrev Holds : State Slot (View S O R) → Type 0
  Holds = Turning entries state reply after start

  -- what most steps tell doesn't depend on their operands
  abbrev pub any_step : Step Slot
  any_step = step 0 0 0 0 maybe.none

  abbrev words_of : ℕ → ℕ → ℕ → Log → List ℕ
  words_of p d s log = p ∷ (d % 18446744073709551616) ∷ (s % 18446744073709551616) ∷ length log ∷ []

  holds_at : (p d s : ℕ) (log : Log) (homes : Homes) (views : Views) (ws : List ℕ) → ws ≡ words_of p d s log → Rule p d s log homes views → Holds record { words = ws; homes = homes; views = views }
  holds_at p d s log homes views ws e st = record { passes = p; drawn = d; serving = s; log = log; words = e; stands = st }

  -- the seat has a new view and an act that keep the rule, and `then` holds, where the words are these
  abbrev Goes : ℕ → M → ℕ → (ℕ → ℕ) → (ℕ → M → Type 0) → Homes → Views → List ℕ → Type 0
  Goes id m i f then homes views ws = (w : View S O R) × (a : Act Slot) × Valid homes m.1 a
      × Holds record { words = set ws i (f (get_or ws i 0)); homes = homes_after homes m.1 a; views = set views id w }
      × then (get_or ws i 0) (w, carried_after m.1 a)

  moves : (slots id : ℕ) (m : M) (i : ℕ) (f : ℕ → ℕ) (then : ℕ → M → Type 0)
      → ((p d s : ℕ) (log : Log) (homes : Homes) (views : Views) → Rule p d s log homes views → length homes ≡ slots → get_elem? views id ≡ maybe.some m.0 → Goes id m i f then homes views (words_of p d s log))
      → Allows Holds slots id m i f then
  moves slots id m i f then each s h len at fits = subst (Goes id m i f then s.homes s.views) (sym h.words) (each h.passes h.drawn h.serving h.log s.homes s.views h.stands len at)

  stays : (id : ℕ) (m : M) (i : ℕ) (f : ℕ → ℕ) (then : ℕ → M → Type 0) (p d s : ℕ) (log : Log) (homes : Homes) (views : Views) (ws : List ℕ) (w : View S O R) → set ws i (f (get_or ws i 0)) ≡ words_of p d s log
      → Rule p d s log homes (set views id w) → then (get_or ws i 0) (w, m.1) → Goes id m i f then homes views ws
  stays id m i f then p d s log homes views ws w words rule told = (w, keeps, tt, holds_at p d s log homes (set views id w) _ words rule, told)

  pub makes : (xs : List Slot) (held : Held X H) → xs ≡ Some held ∷ [] → entries held.history ≡ [] → state held.object ≡ start.state → Holds (opening (1 ∷ 0 ∷ 0 ∷ 0 ∷ []) xs (opening_view start))
  makes xs held is none same = subst (λ ys. Holds (opening (1 ∷ 0 ∷ 0 ∷ 0 ∷ []) ys (opening_view start))) (sym is)
      (holds_at 1 0 0 [] (maybe.some (Some held) ∷ []) (opening_view start ∷ []) (1 ∷ 0 ∷ 0 ∷ 0 ∷ []) refl (stands.made entries state reply after start held none same))

  pub draws : (slots id : ℕ) (m : M) → m.0.tickets ≡ [] → m.0.come ≡ false → 0 < length m.0.numbers → Allows Holds slots id m 1 (λ n. (n + 1) % 18446744073709551616) (drew any_step m)
  draws slots id m none idle some = moves slots id m 1 (λ n. (n + 1) % 18446744073709551616) (drew any_step m) (λ p d s log homes views rule len at.
      stays id m 1 (λ n. (n + 1) % 18446744073709551616) (drew any_step m) p (d + 1) s log homes views (words_of p d s log) (record m.0 { tickets = d ∷ [] })
      (ap (λ (n : ℕ). p ∷ n ∷ (s % 18446744073709551616) ∷ length log ∷ []) (mod-add-mod d 18446744073709551616 1)) (stands.drawn entries state reply after start p d s log homes views id m.0 at rule none idle some) (d, refl, refl))

  pub looks : (slots id : ℕ) (m : M) (t : ℕ) → m.1 ≡ [] → m.0.tickets ≡ t ∷ [] → m.0.come ≡ false → Allows Holds slots id m 2 (λ n. n) (looked entries state reply after any_step m)
  looks slots id m t empty ticket idle = moves slots id m 2 (λ n. n) (looked entries state reply after any_step m) (λ p d s log homes views rule len at.
      dite (ℕ_discrete (s % 18446744073709551616) (first_of m.0.tickets % 18446744073709551616))
      (λ same.
      let mine : t ≡ s = stands.is_served entries state reply after start p d s log homes views id m.0 at rule t ticket (same ∙ ap (λ (ts : List ℕ). first_of ts % 18446744073709551616) ticket) in
      let now : m.0.tickets ≡ s ∷ [] = ticket ∙ ap (λ (n : ℕ). n ∷ []) mine in
      let h : AtHome entries state reply after start homes log = stands.home_of entries state reply after start p d s log homes views id m.0 at rule now idle in
      let k = rule.each id m.0 at in (
        record m.0 { seen = entries h.held.history; come = true },
        takes 0 (Some h.held),
        ap (λ (hs : Homes). get_elem? hs 0) h.is,
        holds_at p d s log (set homes 0 maybe.none) (set views id (record m.0 { seen = entries h.held.history; come = true })) _ refl
            (stands.came entries state reply after start p d s log homes views id m.0 at rule (set homes 0 maybe.none) h.held now h.history),
        (
          (λ _. record {
            held = h.held;
            slot = ap (λ (c : List (ℕ × Slot)). (0, Some h.held) ∷ c) empty;
            view = refl;
            claims = subst (Claims m.0.numbers m.0.seen) (sym h.history) k.seen;
            legal = λ x is. rw (k.begins x is, h.history) (rule.legal, h.object, rule.bounded);
          }),
          (λ other. absurd (other same)),
        ),
      ))
      (λ other. stays id m 2 (λ n. n) (looked entries state reply after any_step m) p d s log homes views (words_of p d s log) m.0 refl (subst (Rule p d s log homes) (sym (set_again views id m.0 at)) rule) ((λ same. absurd (other same)), (λ _. refl))))

  pub serves : (slots id : ℕ) (m : M) (held : Held X H) → slots ≡ 1 → m.0.come ≡ true → m.1 ≡ (0, Some held) ∷ [] → entries held.history ≡ m.0.seen → state held.object ≡ replay reply after start.state m.0.seen
      → Allows Holds slots id m 2 (λ n. (n + 1) % 18446744073709551616) (left any_step m)
  serves slots id m held one turn slot history object = moves slots id m 2 (λ n. (n + 1) % 18446744073709551616) (left any_step m) (λ p d s log homes views rule len at. (
    record m.0 { tickets = []; come = false },
    gives,
    tt,
    holds_at p d (s + 1) log (put_back homes m.1) (set views id (record m.0 { tickets = []; come = false })) _ (ap (λ (n : ℕ). p ∷ (d % 18446744073709551616) ∷ n ∷ length log ∷ []) (mod-add-mod s 18446744073709551616 1))
        (subst (λ (hs : Homes). Rule p d (s + 1) log hs (set views id (record m.0 { tickets = []; come = false }))) (sym (ap (put_back homes) slot))
        (stands.serve entries state reply after start p d s log homes views id m.0 at rule held turn (len ∙ one) history object)),
    refl,
  ))

  pub notes : (slots id : ℕ) (m : M) (said : Slot) (e : Entry O R) (old n : ℕ) → m.0.come ≡ true → m.0.past ≡ [] → items_of entries said ≡ m.0.seen ++ e ∷ [] → 0 < times e.number m.0.numbers
      → e.reply ≡ reply (replay reply after start.state m.0.seen) e.op → length m.0.seen < start.limit → old ≡ length m.0.seen → n ≡ length (items_of entries said)
      → Allows Holds slots id m 3 (λ k. either (eqb k old) n k) (noted entries (step 0 0 old n (maybe.some said)) m)
  notes slots id m said e old n turn past history own right room was is = moves slots id m 3 (λ k. either (eqb k old) n k) (noted entries (step 0 0 old n (maybe.some said)) m) (λ p d s log homes views rule len at.
      let k = rule.each id m.0 at in
      let mine : m.0.seen ≡ log = (k.come turn).1 in
      let found : length log ≡ old = ap length (sym mine) ∙ sym was in
      stays id m 3 (λ k. either (eqb k old) n k) (noted entries (step 0 0 old n (maybe.some said)) m) p d s (log ++ e ∷ []) homes views (words_of p d s log) (record m.0 { seen = items_of entries said })
      (ap (λ (c : ℕ). p ∷ (d % 18446744073709551616) ∷ (s % 18446744073709551616) ∷ c ∷ []) (ap (λ (b : Bool). either b n (length log)) (eq-eqb (length log) old found) ∙ (is ∙ ap length (history ∙ ap (λ (l : Log). l ++ e ∷ []) mine))))
      (stands.note entries state reply after start p d s log homes views id m.0 at rule e (items_of entries said) turn past history own right room) refl)

  pub counts : (slots id : ℕ) (m : M) → m.0.come ≡ false → Allows Holds slots id m 0 (λ n. n) (counted any_step m)
  counts slots id m idle = moves slots id m 0 (λ n. n) (counted any_step m) (λ p d s log homes views rule len at.
      let k = rule.each id m.0 at in
      stays id m 0 (λ n. n) (counted any_step m) p d s log homes views (words_of p d s log) (record m.0 { made = p }) refl (stands.quiet entries state reply after start p d s log homes views id m.0 at rule p m.0.past idle (omega arith) k.past) (refl, k.made))

  pub tells : (slots id : ℕ) (m : M) → m.0.come ≡ false → Allows Holds slots id m 0 (λ n. n) (told any_step m)
  tells slots id m idle = moves slots id m 0 (λ n. n) (told any_step m) (λ p d s log homes views rule len at.
      stays id m 0 (λ n. n) (told any_step m) p d s log homes views (words_of p d s log) (record m.0 { past = [] }) refl (stands.quiet entries state reply after start p d s log homes views id m.0 at rule m.0.made [] idle (rule.each id m.0 at).made tt)
      (refl, stands.tells entries state reply after start p d s log homes views id m.0 at rule))

  -- a seat that was split off has no number yet
  pub draws_first : (slots id : ℕ) (m : M) (v : View S O R) (old : ℕ) → m ≡ (record (unnumbered v) { made = old }, []) → old < 4294967296
      → Allows Holds slots id m 0 (λ n. either (eqb n old) (old + 1) n) (numbered (step 0 0 old 0 maybe.none) m)
  draws_first slots id m v old is few = moves slots id m 0 (λ n. either (eqb n old) (old + 1) n) (numbered (step 0 0 old 0 maybe.none) m) (λ p d s log homes views rule len at.
      let idle : m.0.come ≡ false = ap (λ (n : M). n.0.come) is in
      let k = rule.each id m.0 at in
      dite (ℕ_discrete p old)
      (λ same. stays id m 0 (λ n. either (eqb n old) (old + 1) n) (numbered (step 0 0 old 0 maybe.none) m) (p + 1) d s log homes views (words_of p d s log) (record m.0 { numbers = p ∷ []; made = p + 1 })
      (ap (λ (n : ℕ). n ∷ (d % 18446744073709551616) ∷ (s % 18446744073709551616) ∷ length log ∷ []) (ap (λ (b : Bool). either b (old + 1) p) (eq-eqb p old same) ∙ ap (λ (n : ℕ). n + 1) (sym same)))
      (stands.number entries state reply after start p d s log homes views id m.0 at rule (ap (λ (n : M). n.0.numbers) is) (ap (λ (n : M). n.0.tickets) is) (ap (λ (n : M). n.0.past) is) idle (omega (arith, same, few)))
      ((λ _. (refl, stands.unseen entries state reply after start p d s log homes views id m.0 at rule)), (λ other. absurd (other same))))
      (λ other. stays id m 0 (λ n. either (eqb n old) (old + 1) n) (numbered (step 0 0 old 0 maybe.none) m) p d s log homes views (words_of p d s log) (record m.0 { made = p })
      (ap (λ (n : ℕ). n ∷ (d % 18446744073709551616) ∷ (s % 18446744073709551616) ∷ length log ∷ []) (ap (λ (b : Bool). either b (old + 1) p) (ne_eqb p old other)))
      (stands.quiet entries state reply after start p d s log homes views id m.0 at rule p m.0.past idle (omega arith) k.past)
      ((λ same. absurd (other same)), (λ _. (refl, omega (arith, k.made, ap (λ (n : M). n.0.made) is, other))))))

  pub splits : (id : ℕ) (v : View S O R) → v.come ≡ false → Splits Holds id v v (unnumbered v)
  splits id v idle s h at = holds_at h.passes h.drawn h.serving h.log s.homes _ s.words h.words (rw (set_again s.views id v at) (stands.split entries state reply after start h.passes h.drawn h.serving h.log s.homes s.views id v at h.stands idle))

  pub joins : (id other : ℕ) (v w : View S O R) → v.come ≡ false → w.tickets ≡ [] → w.come ≡ false → Joins Holds id v other w (joined v w) spent_view
  joins id other v w idle free not_come s h at apart there =
      holds_at h.passes h.drawn h.serving h.log s.homes _ s.words h.words (stands.join entries state reply after start h.passes h.drawn h.serving h.log s.homes s.views id v at h.stands other w apart there idle free not_come)

  -- one that has drawn none comes back
  pub joins_back : (id other : ℕ) (v : View S O R) (m : M) (u : View S O R) (old : ℕ) → v.come ≡ false → m ≡ (record (unnumbered u) { made = old }, []) → Joins Holds id v other m.0 (joined v m.0) spent_view
  joins_back id other v m u old idle is = joins id other v m.0 idle (ap (λ (n : M). n.0.tickets) is) (ap (λ (n : M). n.0.come) is)

  -- what the last look at a table shows of a pass that has all numbers
  pub shows : (z : TableId) (id : ℕ) (v : View S O R) (k : ℕ) (ws : List ℕ) (xs : List Slot) (all : ℕ) (held : Held X H) → Final (Seen Holds id v) ws xs
      → get_elem? ws 0 ≡ maybe.some all → get_elem? xs 0 ≡ maybe.some (Some held) → v.tickets ≡ [] → v.numbers ≡ k ∷ drop 1 v.numbers → all ≤ length v.numbers
      → IsTrace reply after state start (pass_view z v k) (entries held.history) held.object
  shows z id v k ws xs all held final first here idle named few =
      let h = final.1.0 in
      let p_is : h.passes ≡ all = some-injective h.passes all (sym (ap (λ (l : List ℕ). get_elem? l 0) (sym final.2 ∙ h.words)) ∙ first) in
      let e = stands.ended entries state reply after start h.passes h.drawn h.serving h.log final.0.homes final.0.views id v final.1.1 h.stands idle (omega (arith, p_is, few)) in
      let home : AtHome entries state reply after start final.0.homes h.log = e.home in
      let same : home.held ≡ held = same_Some home.held held (some-injective (Some home.held) (Some held) (sym (final.4 0 (Some home.held) (ap (λ (hs : Homes). get_elem? hs 0) home.is)) ∙ here)) in
      let history : entries held.history ≡ h.log = ap (λ (z : Held X H). entries z.history) (sym same) ∙ home.history in
      let most : v.made ≤ length v.numbers = omega (arith, (h.stands.each id v final.1.1).made, p_is, few) in
      rw history record {
        whole = sym e.whole;
        legal = h.stands.legal;
        object_is = ap (λ (z : Held X H). state z.object) (sym same) ∙ home.object;
        bounded = h.stands.bounded;
        own = subst (λ (l : List ℕ). Own l h.log) named e.own;
        differ = subst (λ (l : List ℕ). (n : ℕ) → times n l ≤ 1) named e.differ;
        most = subst (λ (l : List ℕ). v.made ≤ length l) named most;
      }
