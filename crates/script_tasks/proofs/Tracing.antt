-- How histories are written, one behind another.
use Rattle.script_tasks.proofs.Prelude.{◌≡◌, ℕ, suc, ◌+◌, ◌<◌, ◌≤◌, List, ◌++◌, length, map, get_or, take, add-one, Option, sym, ap, ◌∙◌, subst, arith, Appends-trans, get_or-map, length-map, Appends, Reply, Op}
use Rattle.std.proofs.Math.Seq.{take-length}
use Rattle.turnstile.specs.declared.history.Entry.{Entry}
use Rattle.script_runs.specs.Traces.{traces_from}
use Rattle.script_runs.proofs.Printing.{traces-next}

module _ {A : Type 0} (text : ℕ → List (Entry Op Reply) → List ℕ) (f : A → List (Entry Op Reply)) (old now : Option (List ℕ)) (xs : List A) (k : ℕ) (written : Appends old now (traces_from text 0 (take k (map f xs)))) where
  -- one more was written
  pub written-more : (new : Option (List ℕ)) (d : A) → k < length xs → d ≡ get_or xs k d → Appends now new (text k (f d)) → Appends old new (traces_from text 0 (take (k + 1) (map f xs)))
  written-more new d less is more =
      let next : traces_from text 0 (take (suc k) (map f xs)) ≡ traces_from text 0 (take k (map f xs)) ++ text k (f d) =
      traces-next text 0 (map f xs) k (f d) (omega (arith, less, length-map xs f))
      ∙ ap (λ (q : ℕ). traces_from text 0 (take k (map f xs)) ++ text q (get_or (map f xs) k (f d))) (omega arith)
      ∙ ap (λ (h : List (Entry Op Reply)). traces_from text 0 (take k (map f xs)) ++ text k h) (get_or-map f xs k d (f d) less ∙ ap f (sym is)) in
      rw (add-one, next) (Appends-trans old now new (traces_from text 0 (take k (map f xs))) (text k (f d)) written more)

  -- all were written
  pub written-all : length xs ≤ k → k ≤ length xs → Appends old now (traces_from text 0 (map f xs))
  written-all least most =
      let whole : k ≡ length (map f xs) = omega (arith, least, most, length-map xs f) in
      subst (λ (hs : List (List (Entry Op Reply))). Appends old now (traces_from text 0 hs)) (ap (λ (n : ℕ). take n (map f xs)) whole ∙ take-length (map f xs)) written
