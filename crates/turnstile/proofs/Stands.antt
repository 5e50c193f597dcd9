-- What stands after each kind of step, and at the end, over plain numbers, the history, the homes and the views.
use Rattle.turnstile.proofs.Prelude.{at_set, at_snoc, at_longer, set_else, one_turn, ◌≡◌, ◌≢◌, ℕ, zero, suc, ◌+◌, ◌%◌, ◌^◌, ◌<◌, ◌≤◌, ⊎_elim, Bool, true, false, List, [], ◌∷◌, ◌++◌, length, set, Option, Some, refl, sym, ap, ◌∙◌, subst, arith, length-append, append-nil, none-some, same_Some, get_elem?, dite, some-injective, ℕ_discrete, dec_le}
use Rattle.std.proofs.lemmas.Bool.{false≢true, false_from_ne_true}
use mathlib.Core.Option as maybe
use Rattle.turnstile.specs.declared.history.Entry.{Entry}
use Rattle.turnstile.specs.declared.view.Claim.{Claim}
use Rattle.turnstile.specs.declared.view.Held.{Held}
use Rattle.turnstile.specs.declared.view.Start.{Start}
use Rattle.turnstile.specs.declared.view.View.{View}
use Rattle.turnstile.specs.History.{times, total, replay, Foreign, Own, Claims}
use Rattle.turnstile.specs.Plays.{Told}
use Rattle.turnstile.specs.Turns.{AllClaim, opening_view, spent_view, unnumbered, joined, Knows, Out, AtHome, Stands}
use Rattle.turnstile.proofs.Histories.{legal_snoc, drawn_snoc, drawn_more, foreign_none, foreign_fresh, foreign_front, foreign_tail, own_drawn, own_foreign, claims_same, claims_extend, claims_longer, all_claim_extend}
use Rattle.turnstile.proofs.Rolls.{often, many, out_single, out_same, out_none, out_more, out_less, out_snoc, out_join}
use Rattle.turnstile.proofs.Totals.{absent-times, times_same, times-append, times_length, total_set, total_at, total_two, total_below, set_at}

pub both_ways : (b : Bool) → b ≡ false → b ≡ true → ⊥
both_ways b idle turn = false≢true (sym idle ∙ turn)

set_only : {A : Type 0} (l : List A) (a : A) → length l ≡ 1 → set l 0 a ≡ a ∷ []
set_only [] a e = absurd (omega (arith, e))
set_only (x ∷ []) a e = refl
set_only (x ∷ y ∷ l) a e = absurd (omega (arith, e))

module _ {S O R : Type 0} where
  -- a fact of each view, after one changed
  pub each_set : (P : View S O R → Type 0) (views : List (View S O R)) (id : ℕ) (w : View S O R) → P w → ((j : ℕ) (u : View S O R) → j ≢ id → get_elem? views j ≡ maybe.some u → P u)
      → (j : ℕ) (u : View S O R) → get_elem? (set views id w) j ≡ maybe.some u → P u
  each_set P views id w mine others j u e = ⊎_elim (λ (t : (j ≡ id) × (w ≡ u)). subst P t.1 mine) (λ (t : (j ≢ id) × (get_elem? views j ≡ maybe.some u)). others j u t.0 t.1) (at_set views id j w u e)

  -- where nobody's turn has come after a view changed, nobody's had before
  pub home_back : (views : List (View S O R)) (id : ℕ) (v w : View S O R) → get_elem? views id ≡ maybe.some v → v.come ≡ false
      → ((j : ℕ) (u : View S O R) → get_elem? (set views id w) j ≡ maybe.some u → u.come ≡ false) → (j : ℕ) (u : View S O R) → get_elem? views j ≡ maybe.some u → u.come ≡ false
  home_back views id v w at idle none j u there = dite (ℕ_discrete j id)
      (λ e. let same : u ≡ v = some-injective u v (sym there ∙ (ap (get_elem? views) e ∙ at)) in ap (λ (z : View S O R). z.come) same ∙ idle)
      (λ ne. none j u (set_else views id j w ne ∙ there))

  abbrev numbers_in : View S O R → List ℕ
  numbers_in v = v.numbers

  abbrev tickets_in : View S O R → List ℕ
  tickets_in v = v.tickets

  -- two seats can't have the same ticket
  only_one : (s d : ℕ) (views : List (View S O R)) (i j : ℕ) (v u : View S O R) → Out tickets_in s d views → i ≢ j → get_elem? views i ≡ maybe.some v → get_elem? views j ≡ maybe.some u → v.tickets ≡ s ∷ [] → u.tickets ≡ s ∷ [] → ⊥
  only_one s d views i j v u out other at there mine same =
      omega (arith, total_two (often tickets_in s) views i j v u spent_view refl other at there, ap (times s) mine ∙ times_same s s [] refl, ap (times s) same ∙ times_same s s [] refl, out_single tickets_in s d views out s)

module _ {X H S O R : Type 0} (entries : H → List (Entry O R)) (state : X → S) (reply : S → O → R) (after : S → O → S) (start : Start S) where
  abbrev Homes : Type 0
  Homes = List (maybe.Option (Option (Held X H)))

  abbrev Views : Type 0
  Views = List (View S O R)

  abbrev Log : Type 0
  Log = List (Entry O R)

  abbrev Rule : ℕ → ℕ → ℕ → Log → Homes → Views → Type 0
  Rule = Stands entries state reply after start

  abbrev Knower : ℕ → ℕ → Log → View S O R → Type 0
  Knower = Knows start

  -- what a view knows whose turn has not come
  waiting : (p s : ℕ) (log : Log) (v : View S O R) → ((x : Start S) → v.start ≡ Some x → x ≡ start) → v.come ≡ false → v.made ≤ p → length v.tickets ≤ length v.numbers → Claims v.numbers v.seen log → AllClaim v.numbers v.past log
      → Knower p s log v
  waiting p s log v begins idle made fits seen past = record {
    begins = begins;
    made = made;
    fits = fits;
    seen = seen;
    past = past;
    come = λ turn. absurd (both_ways v.come idle turn);
  }

  first_knows : (j : ℕ) (v : View S O R) → get_elem? (opening_view start ∷ []) j ≡ maybe.some v → Knower 1 0 [] v
  first_knows zero v e = subst (Knower 1 0 []) (some-injective (opening_view start) v e)
      (waiting 1 0 [] (opening_view start) (λ x is. sym (same_Some start x is)) refl (omega arith) (omega arith) (claims_same (0 ∷ []) [] [] refl) tt)
  first_knows (suc j) v e = absurd (maybe.some-ne-none v (sym e))

  pub made : (held : Held X H) → entries held.history ≡ [] → state held.object ≡ start.state → Rule 1 0 0 [] (maybe.some (Some held) ∷ []) (opening_view start ∷ [])
  made held none same = record {
    few = omega arith;
    legal = tt;
    known = tt;
    bounded = omega arith;
    numbers = out_more numbers_in 0 0 (spent_view ∷ []) 0 spent_view (opening_view start) refl refl refl (out_none numbers_in spent_view refl);
    tickets = out_none tickets_in (opening_view start) refl;
    each = first_knows;
    home = λ _. record { held = held; is = refl; history = none; object = same };
  }

  -- where one seat has all numbers, no other has a ticket. If it has none either, it has seen all, and the value is at home
  pub record Ended (log : Log) (homes : Homes) (v : View S O R) : Type 0 where
    pub home : AtHome entries state reply after start homes log
    pub whole : v.seen ≡ log
    pub own : Own v.numbers log
    pub differ : (k : ℕ) → times k v.numbers ≤ 1

  -- a seat of a turnstile that stands
  module _ (p d s : ℕ) (log : Log) (homes : Homes) (views : Views) (id : ℕ) (v : View S O R) (at : get_elem? views id ≡ maybe.some v) (st : Rule p d s log homes views) where
    knows : Knower p s log v
    knows = st.each id v at

    -- its view changes while it has not its turn; with it a number or a ticket may be drawn
    changes : (q e : ℕ) (w : View S O R) → v.come ≡ false → p ≤ q → q ≤ 2 ^ 32 → Out numbers_in 0 q (set views id w) → Out tickets_in s e (set views id w) → Knower q s log w → Rule q e s log homes (set views id w)
    changes q e w idle le few numbers tickets now = record {
      few = few;
      legal = st.legal;
      known = drawn_more p q log le st.known;
      bounded = st.bounded;
      numbers = numbers;
      tickets = tickets;
      each = each_set (Knower q s log) views id w now (λ j u _ there. let o = st.each j u there in record {
        begins = o.begins;
        made = omega (arith, o.made, le);
        fits = o.fits;
        seen = o.seen;
        past = o.past;
        come = o.come;
      });
      home = λ none. st.home (home_back views id v w at idle none);
    }

    pub drawn : v.tickets ≡ [] → v.come ≡ false → 0 < length v.numbers → Rule p (d + 1) s log homes (set views id (record v { tickets = d ∷ [] }))
    drawn none idle some =
        let w : View S O R = record v { tickets = d ∷ [] } in
        changes p (d + 1) w idle (omega arith) st.few (out_same numbers_in 0 p views id v w at refl st.numbers) (out_more tickets_in s d views id v w at none refl st.tickets)
        (waiting p s log w knows.begins idle knows.made (omega (arith, some)) knows.seen knows.past)

    -- where its ticket is served, nobody has its turn
    nobody : v.tickets ≡ s ∷ [] → v.come ≡ false → (j : ℕ) (u : View S O R) → get_elem? views j ≡ maybe.some u → u.come ≡ false
    nobody ticket idle j u there = false_from_ne_true u.come (λ turn. dite (ℕ_discrete id j)
        (λ e. let same : u ≡ v = some-injective u v (sym there ∙ (ap (get_elem? views) (sym e) ∙ at)) in both_ways v.come idle (sym (ap (λ (z : View S O R). z.come) same) ∙ turn))
        (λ ne. only_one s d views id j v u st.tickets ne at there ticket ((st.each j u there).come turn).0))

    -- where its turn has come, that of no other has
    others_wait : v.come ≡ true → (j : ℕ) (u : View S O R) → j ≢ id → get_elem? views j ≡ maybe.some u → u.come ≡ false
    others_wait turn j u other there = false_from_ne_true u.come (λ too. only_one s d views j id u v st.tickets other there at ((st.each j u there).come too).0 (knows.come turn).0)

    -- its ticket is the one that is served, where it is so modulo 2^64
    pub is_served : (t : ℕ) → v.tickets ≡ t ∷ [] → s % 18446744073709551616 ≡ t % 18446744073709551616 → t ≡ s
    is_served t ticket same =
        let mine = total_at (often tickets_in t) views id v at in
        let one : times t v.tickets ≡ 1 + times t [] = ap (times t) ticket ∙ times_same t t [] refl in
        let low : s ≤ t = dite (dec_le s t) (λ l. l) (λ n. absurd (omega (arith, mine, one, st.tickets.below t (omega (arith, n))))) in
        let high : t < d = dite (dec_le d t) (λ l. absurd (omega (arith, mine, one, st.tickets.above t l))) (λ n. omega (arith, n)) in
        let fits = total_below (many tickets_in) (many numbers_in) views (λ j u there. (st.each j u there).fits) in
        sym (one_turn s t 18446744073709551616 low (omega (arith, high, fits, st.numbers.counted, st.tickets.counted, st.few)) same)

    -- its turn comes, and it takes the value
    pub came : (homes' : Homes) (held : Held X H) → v.tickets ≡ s ∷ [] → entries held.history ≡ log → Rule p d s log homes' (set views id (record v { seen = entries held.history; come = true }))
    came homes' held ticket history =
        let w : View S O R = record v { seen = entries held.history; come = true } in
        record {
          few = st.few;
          legal = st.legal;
          known = st.known;
          bounded = st.bounded;
          numbers = out_same numbers_in 0 p views id v w at refl st.numbers;
          tickets = out_same tickets_in s d views id v w at refl st.tickets;
          each = each_set (Knower p s log) views id w record {
            begins = knows.begins;
            made = knows.made;
            fits = knows.fits;
            seen = claims_same v.numbers (entries held.history) log history;
            past = knows.past;
            come = λ _. (ticket, history);
          } (λ j u _ there. st.each j u there);
          home = λ none. absurd (false≢true (sym (none id w (set_at views id v w at))));
        }

    -- the value is at home, where nobody has its turn
    pub home_of : v.tickets ≡ s ∷ [] → v.come ≡ false → AtHome entries state reply after start homes log
    home_of ticket idle = st.home (nobody ticket idle)

    -- the value comes home, and the next ticket is served
    pub serve : (held : Held X H) → v.come ≡ true → length homes ≡ 1
        → entries held.history ≡ v.seen → state held.object ≡ replay reply after start.state v.seen
        → Rule p d (s + 1) log (set homes 0 (maybe.some (Some held))) (set views id (record v { tickets = []; come = false }))
    serve held turn one history object =
        let w : View S O R = record v { tickets = []; come = false } in
        let mine = knows.come turn in
        record {
          few = st.few;
          legal = st.legal;
          known = st.known;
          bounded = st.bounded;
          numbers = out_same numbers_in 0 p views id v w at refl st.numbers;
          tickets = out_less tickets_in s d views id v w at mine.0 refl st.tickets;
          each = each_set (Knower p (s + 1) log) views id w (waiting p (s + 1) log w knows.begins refl knows.made (omega arith) knows.seen knows.past)
              (λ j u other there. let o = st.each j u there in waiting p (s + 1) log u o.begins (others_wait turn j u other there) o.made o.fits o.seen o.past);
          home = λ _. record {
            held = held;
            is = set_only homes (maybe.some (Some held)) one;
            history = history ∙ mine.1;
            object = object ∙ ap (replay reply after start.state) mine.1;
          };
        }

    -- it adds an entry in its turn
    pub note : (e : Entry O R) (es : Log) → v.come ≡ true → v.past ≡ []
        → es ≡ v.seen ++ e ∷ [] → 0 < times e.number v.numbers → e.reply ≡ reply (replay reply after start.state v.seen) e.op → length v.seen < start.limit
        → Rule p d s (log ++ e ∷ []) homes (set views id (record v { seen = es }))
    note e es turn past history own right room =
        let w : View S O R = record v { seen = es } in
        let mine = knows.come turn in
        let whole : es ≡ log ++ e ∷ [] = history ∙ ap (λ (l : Log). l ++ e ∷ []) mine.1 in
        record {
          few = st.few;
          legal = legal_snoc reply after start.state log e st.legal (right ∙ ap (λ (l : Log). reply (replay reply after start.state l) e.op) mine.1);
          known = drawn_snoc p log e st.known (dite (dec_le p e.number)
              (λ l. absurd (omega (arith, st.numbers.above e.number l, total_at (often numbers_in e.number) views id v at, own)))
              (λ n. omega (arith, n)));
          bounded = omega (arith, length-append log (e ∷ []), ap length mine.1, room);
          numbers = out_same numbers_in 0 p views id v w at refl st.numbers;
          tickets = out_same tickets_in s d views id v w at refl st.tickets;
          each = each_set (Knower p s (log ++ e ∷ [])) views id w record {
            begins = knows.begins;
            made = knows.made;
            fits = knows.fits;
            seen = claims_same v.numbers es (log ++ e ∷ []) whole;
            past = subst (λ cs. AllClaim v.numbers cs (log ++ e ∷ [])) (sym past) tt;
            come = λ _. (mine.0, whole);
          } (λ j u other there.
              let o = st.each j u there in
              let alien : times e.number u.numbers ≡ 0 =
              omega (arith, total_two (often numbers_in e.number) views id j v u spent_view refl (λ same. other (sym same)) at there, out_single numbers_in 0 p views st.numbers e.number, own) in
              let new : Foreign u.numbers (e ∷ []) = (absent-times u.numbers e.number alien, tt) in
              waiting p s (log ++ e ∷ []) u o.begins (others_wait turn j u other there) o.made o.fits
              (claims_extend u.numbers u.seen log (e ∷ []) o.seen new) (all_claim_extend u.numbers u.past log (e ∷ []) new o.past));
          home = λ none. absurd (both_ways v.come (none id w (set_at views id v w at)) turn);
        }

    -- the count of passes that it knows changes, or what it claimed before
    pub quiet : (known : ℕ) (claims : List (Claim O R)) → v.come ≡ false → known ≤ p → AllClaim v.numbers claims log → Rule p d s log homes (set views id (record v { made = known; past = claims }))
    quiet known claims idle few hold =
        let w : View S O R = record v { made = known; past = claims } in
        changes p d w idle (omega arith) st.few (out_same numbers_in 0 p views id v w at refl st.numbers) (out_same tickets_in s d views id v w at refl st.tickets)
        (waiting p s log w knows.begins idle few knows.fits knows.seen hold)

    pub tells : Told v
    tells = record {
      log = log;
      past = knows.past;
      seen = knows.seen;
      once = λ n. omega (arith, total_at (often numbers_in n) views id v at, out_single numbers_in 0 p views st.numbers n);
      few = omega (arith, total_at (many numbers_in) views id v at, st.numbers.counted, st.few);
    }

    -- a seat is split off from it
    pub split : v.come ≡ false → Rule p d s log homes (views ++ unnumbered v ∷ [])
    split idle = record {
      few = st.few;
      legal = st.legal;
      known = st.known;
      bounded = st.bounded;
      numbers = out_snoc numbers_in 0 p views (unnumbered v) refl st.numbers;
      tickets = out_snoc tickets_in s d views (unnumbered v) refl st.tickets;
      each = λ j u there. ⊎_elim (λ here. st.each j u here)
          (λ (e : unnumbered v ≡ u). subst (Knower p s log) e
          (waiting p s log (unnumbered v) knows.begins refl knows.made (omega arith) (record { rest = knows.seen.rest; is = knows.seen.is; foreign = foreign_none knows.seen.rest }) tt))
          (at_snoc views (unnumbered v) u j there);
      home = λ none. st.home (λ j u there. none j u (at_longer views (unnumbered v ∷ []) j u there));
    }

    -- without a number, it draws one
    pub number : v.numbers ≡ [] → v.tickets ≡ [] → v.past ≡ [] → v.come ≡ false → p < 2 ^ 32 → Rule (p + 1) d s log homes (set views id (record v { numbers = p ∷ []; made = p + 1 }))
    number none free past idle few =
        let w : View S O R = record v { numbers = p ∷ []; made = p + 1 } in
        changes (p + 1) d w idle (omega arith) (omega (arith, few)) (out_more numbers_in 0 p views id v w at none refl st.numbers) (out_same tickets_in s d views id v w at refl st.tickets)
        (waiting (p + 1) s log w knows.begins idle (omega arith) (omega (arith, ap length free))
        (record { rest = knows.seen.rest; is = knows.seen.is; foreign = foreign_tail (p ∷ []) v.seen knows.seen.rest (subst (Foreign (p ∷ [])) knows.seen.is (foreign_fresh p log st.known)) }) (subst (λ cs. AllClaim (p ∷ []) cs log) (sym past) tt))

    -- no entry that it has seen has a number that is not drawn yet
    pub unseen : Foreign (p ∷ []) v.seen
    unseen = foreign_front (p ∷ []) v.seen knows.seen.rest (subst (Foreign (p ∷ [])) knows.seen.is (foreign_fresh p log st.known))

    -- it takes in another
    pub join : (other : ℕ) (w : View S O R) → other ≢ id → get_elem? (set views id (joined v w)) other ≡ maybe.some w
        → v.come ≡ false → w.tickets ≡ [] → w.come ≡ false → Rule p d s log homes (set (set views id (joined v w)) other spent_view)
    join other w apart there idle free not_come =
        let before : get_elem? views other ≡ maybe.some w = sym (set_else views id other (joined v w) apart) ∙ there in
        let o = st.each other w before in
        let both : Knower p s log (joined v w) =
        waiting p s log (joined v w) knows.begins idle (omega (arith, knows.made, o.made)) (omega (arith, knows.fits, length-append v.numbers w.numbers)) (claims_longer v.numbers w.numbers v.seen w.seen log knows.seen o.seen)
        ((λ n. omega (arith, times-append n v.numbers w.numbers)), knows.seen, ((λ n. omega (arith, times-append n v.numbers w.numbers)), o.seen, tt)) in
        let spent : Knower p s log spent_view =
        waiting p s log spent_view (λ x is. absurd (none-some x is)) refl (omega arith) (omega arith) (record { rest = log; is = refl; foreign = foreign_none log }) tt in
        record {
          few = st.few;
          legal = st.legal;
          known = st.known;
          bounded = st.bounded;
          numbers = out_join numbers_in 0 p views id other v w (joined v w) spent_view at there refl refl st.numbers;
          tickets = out_join tickets_in s d views id other v w (joined v w) spent_view at there (sym (append-nil v.tickets) ∙ ap (λ ts. v.tickets ++ ts) (sym free)) refl st.tickets;
          each = each_set (Knower p s log) (set views id (joined v w)) other spent_view spent (λ j u _ here. each_set (Knower p s log) views id (joined v w) both (λ j u _ here. st.each j u here) j u here);
          home = λ none. st.home (home_back views id v (joined v w) at idle (home_back (set views id (joined v w)) other w spent_view there not_come none));
        }

    pub ended : v.tickets ≡ [] → p ≤ length v.numbers → Ended log homes v
    ended idle all =
        let rest = set views id spent_view in
        let none : total (many numbers_in) rest ≡ 0 = omega (arith, st.numbers.counted, total_set (many numbers_in) views id v spent_view at, all) in
        let mine : (k : ℕ) → total (often numbers_in k) views ≡ times k v.numbers =
        λ k. omega (arith, none, total_set (often numbers_in k) views id v spent_view at, total_below (often numbers_in k) (many numbers_in) rest (λ j u _. times_length k u.numbers)) in
        let no_ticket : total (many tickets_in) views ≡ 0 =
        omega (
          arith,
          none,
          ap length idle,
          total_set (many tickets_in) views id v spent_view at,
          total_below (many tickets_in) (many numbers_in) rest
              (each_set (λ u. length u.tickets ≤ length u.numbers) views id spent_view (omega arith) (λ j u _ there. (st.each j u there).fits)),
        ) in
        let own : Own v.numbers log = own_drawn v.numbers p log (λ k l. omega (arith, st.numbers.once k (omega arith) l, mine k)) st.known in
        let c = knows.seen in
        record {
          home = st.home (λ j u here. false_from_ne_true u.come (λ turn. omega (arith, total_at (many tickets_in) views j u here, ap length ((st.each j u here).come turn).0, no_ticket)));
          whole = sym (c.is ∙ (ap (λ (l : Log). v.seen ++ l) (own_foreign v.numbers v.seen c.rest (subst (Own v.numbers) c.is own) c.foreign) ∙ append-nil v.seen));
          own = own;
          differ = λ k. omega (arith, out_single numbers_in 0 p views st.numbers k, mine k);
        }
