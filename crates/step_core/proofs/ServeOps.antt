-- A subscription served by its number: what is left to do after each event that was handled at once.
use Rattle.step_core.proofs.Prelude.{◌≡◌, ◌∙◌, ap, sym, refl, subst, ℕ, suc, ◌-◌, length, get_or, Option, Some, None, length-map, same_Some, option_map, sub_equality, same_sub, GrainId, SubName, Explicit, with_value-at, sub_at, PlainPartition, Subscription}
use Rattle.stream_model.specs.Draining as draining
use Rattle.stream_model.specs.Draining.{serve}
use Rattle.step_core.specs.DrainPhases.{Ends, after_deliveries}
use Rattle.step_core.specs.Serving.{cursor_of, grain_of, name_of, names_of, serve_up_to, turned, IsHandledLast, IsHandledOnce}
use Rattle.step_core.proofs.DrainLoops.{Suffices}
use Rattle.step_core.proofs.DrainRounds.{serve-known}
use Rattle.step_core.proofs.OnceOps.{turn-more, with_value-map}

-- the subscription where the drain has come to, and that what is left to do serves it
pub record Serves (start here : PlainPartition) (number left : ℕ) : Type 0 where
  pub long : length here.subs ≡ length start.subs
  pub now : Subscription
  pub found : sub_at here (name_of here number) ≡ Some now
  pub rest : Suffices start here (serve_up_to left (name_of here number) now.grain here) (serve (name_of start number) start (sub_at start (name_of start number)))

pub serves-first : (p : PlainPartition) (number most cursor : ℕ) → Some cursor ≡ option_map cursor_of (sub_at p (name_of p number)) → most ≡ p.high - cursor → Serves p p number most
serves-first p number most cursor is_cursor is_most = by (sub_at p (name_of p number)) refl
  where
    by : (found : Option Subscription) → sub_at p (name_of p number) ≡ found → Serves p p number most
    by None none = absurd (let there = is_cursor ∙ ap (option_map cursor_of) none in cc)
    by (Some r) found =
        let level : cursor ≡ r.cursor = let there = is_cursor ∙ ap (option_map cursor_of) found in cc in
        record {
          long = refl;
          now = r;
          found = found;
          rest = λ new end ends. subst (Ends p new end) (serve-known p (name_of p number) r most found (is_most ∙ ap (λ n. p.high - n) level)) ends;
        }

-- a turn leaves the names
kept : (here new : PlainPartition) (number : ℕ) → IsHandledOnce here new (name_of here number) → names_of new ≡ names_of here
kept here new number handled =
    let r = handled.record_of in
    ap names_of handled.is
    ∙ with_value-map (λ (entry : SubName × Subscription). entry.0) same_sub (name_of here number) r (turned r handled.position) here.subs handled.can.found (λ _. refl)

pub name : (here new : PlainPartition) (number : ℕ) → IsHandledOnce here new (name_of here number) → name_of new number ≡ name_of here number
name here new number handled = ap (λ names. get_or names number (Explicit 0)) (kept here new number handled)

pub serves-next : (start here new : PlainPartition) (number left more : ℕ) → more ≡ suc left → Serves start here number more → IsHandledOnce here new (name_of here number) → Serves start new number left
serves-next start here new number left more is_more serves handled = record {
  long = sym (length-map new.subs (λ (entry : SubName × Subscription). entry.0)) ∙ ap length (kept here new number handled) ∙ length-map here.subs (λ (entry : SubName × Subscription). entry.0) ∙ serves.long;
  now = turned r handled.position;
  found =
      ap (sub_at new) (name here new number handled)
      ∙ ap (λ (x : PlainPartition). sub_at x s) handled.is
      ∙ with_value-at same_sub sub_equality s (turned r handled.position) here.subs;
  rest = λ q end ends. serves.rest q end
      (subst (λ n. Ends here q end (serve_up_to n s serves.now.grain here)) (sym is_more)
      (subst (λ g. Ends here q end (serve_up_to (suc left) s g here)) grain
      (turn-more here s r handled.position handled.activation handled.can left (after_deliveries s) q end
      (subst (λ (x : PlainPartition). Ends x q end (serve_up_to left s r.grain x)) handled.is
      (subst (λ (x : SubName). Ends new q end (serve_up_to left x r.grain new)) (name here new number handled) ends)))));
}
  where
    s : SubName
    s = name_of here number

    r : Subscription
    r = handled.record_of

    grain : r.grain ≡ serves.now.grain
    grain = ap grain_of (same_Some r serves.now (sym handled.can.found ∙ serves.found))

-- one that is caught up then is served
pub serves-last : (start here new : PlainPartition) (number left more : ℕ) → more ≡ suc left → Serves start here number more → IsHandledLast here new (name_of here number) → Ends start new (Some None) (serve (name_of start number) start (sub_at start (name_of start number)))
serves-last start here new number left more is_more serves handled =
    let next = serves-next start here handled.between number left more is_more serves handled.once in
    next.rest new (Some None)
    (subst (λ (s : SubName). Ends handled.between new (Some None) (serve_up_to left s next.now.grain handled.between)) (sym (name here handled.between number handled.once))
    (handled.rest.served left next.now.grain))

-- what is done from here on serves the subscription
pub serves-rest : (start here mid new : PlainPartition) (number left : ℕ) (end : Option (Option draining.Stop)) → mid ≡ here → Serves start here number left
    → ((r : Subscription) → sub_at mid (name_of mid number) ≡ Some r → Ends mid new end (serve_up_to left (name_of mid number) r.grain mid))
    → Ends start new end (serve (name_of start number) start (sub_at start (name_of start number)))
serves-rest start here mid new number left end same serves ends =
    serves.rest new end
    (subst (λ (x : PlainPartition). (r : Subscription) → sub_at x (name_of x number) ≡ Some r → Ends x new end (serve_up_to left (name_of x number) r.grain x)) same ends serves.now serves.found)

-- deliveries to the grain of the subscription, and what follows them, by the name and the grain that were read
pub rest-is : (p here new : PlainPartition) (number most : ℕ) (s : SubName) (g : GrainId) (end : Option (Option draining.Stop)) → here ≡ p → s ≡ name_of here number → Some g ≡ option_map grain_of (sub_at here (name_of here number))
    → Ends here new end (serve_up_to most s g here) → (r : Subscription) → sub_at p (name_of p number) ≡ Some r → Ends p new end (serve_up_to most (name_of p number) r.grain p)
rest-is p here new number most s g end same is_s is_g ends r found =
    subst (λ (x : PlainPartition). Ends x new end (serve_up_to most (name_of x number) r.grain x)) same
    (subst (λ (x : SubName). Ends here new end (serve_up_to most x r.grain here)) is_s
    (subst (λ g. Ends here new end (serve_up_to most s g here)) grain ends))
  where
    grain : g ≡ r.grain
    grain =
        let there = is_g ∙ ap (λ (x : PlainPartition). option_map grain_of (sub_at x (name_of x number))) same ∙ ap (option_map grain_of) found in
        cc
