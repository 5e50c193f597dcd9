-- What holds where a part of a drain has ended well. Nothing is said where it stopped at a limit, and it
-- never goes astray.
use Rattle.stream_laws.proofs.Prelude.{◌≡◌, ℕ, suc, ◌+◌, true, false, List, [], ◌∷◌, ◌++◌, length, filter, Option, Some, None, if◌then◌else◌, refl, sym, subst, arith, Progress, Stop, AtTooMany, AtSpent, Astray, and_then, ask, commits, go_on, is_commit, Reply, Op, PlainPartition}
use Rattle.stream_model.specs.History.{Entry}
use Rattle.stream_model.specs.Step.{step}
use Rattle.stream_laws.proofs.Summary.{Summary, after}

-- what the history says so far, and how many commits the drain has made
pub record Tally : Type 0 where
  pub said : Summary
  pub turns : ℕ

abbrev pub turns_after : ℕ → Op → ℕ
turns_after n op = if is_commit op then suc n else n

abbrev pub tally_after : Tally → Op → Reply → Tally
tally_after t op answer = record { said = after t.said op answer; turns = turns_after t.turns op }

abbrev pub tallied : Tally → List Entry → Tally
tallied t [] = t
tallied t (e ∷ entries) = tallied (tally_after t e.op e.reply) entries

pub tallied-append : (t : Tally) (first second : List Entry) → tallied t (first ++ second) ≡ tallied (tallied t first) second
tallied-append t [] second = refl
tallied-append t (e ∷ first) second = tallied-append (tally_after t e.op e.reply) first second

pub tallied-turns : (t : Tally) (entries : List Entry) → (tallied t entries).turns ≡ t.turns + commits entries
tallied-turns t [] = omega arith
tallied-turns t (e ∷ entries) =
    let said = after t.said e.op e.reply in
    elim (is_commit e.op) as (λ b. (tallied (record { said = said; turns = if b then suc t.turns else t.turns }) entries).turns ≡ t.turns + length (if b then e ∷ filter (λ (e : Entry). is_commit e.op) entries else filter (λ (e : Entry). is_commit e.op) entries)) [
      | true ↦ omega (arith, tallied-turns (record { said = said; turns = suc t.turns }) entries)
      | false ↦ tallied-turns (record { said = said; turns = t.turns }) entries
    ]

abbrev pub EndsWith : Option Stop → Type 0 → Type 0
EndsWith None P = P
EndsWith (Some AtTooMany) P = Unit {0}
EndsWith (Some AtSpent) P = Unit {0}
EndsWith (Some Astray) P = ⊥

-- P holds of what the history says, of the number of turns and of the partition where this ended well
abbrev pub Meets : (Tally → PlainPartition → Type 0) → Tally → Progress → Type 0
Meets P t m = EndsWith m.stop (P (tallied t m.entries) m.now)

-- one operation, whose step is known
pub meets-ask : (P : Tally → PlainPartition → Type 0) (t : Tally) (p : PlainPartition) (op : Op) (next : PlainPartition → Reply → Progress) (q : PlainPartition) (answer : Reply) → step p op ≡ (q, answer) → Meets P (tally_after t op answer) (next q answer) → Meets P t (ask p op next)
meets-ask P t p op next q answer is later =
    subst (λ (out : PlainPartition × Reply). Meets P (tally_after t op out.1) (next out.0 out.1)) (sym is) later

meets-go_on : (P Q : Tally → PlainPartition → Type 0) (t : Tally) (entries : List Entry) (p : PlainPartition) (stop : Option Stop) (next : PlainPartition → Progress) → EndsWith stop (P (tallied t entries) p) → ((u : Tally) (q : PlainPartition) → P u q → Meets Q u (next q)) → Meets Q t (go_on entries p stop next)
meets-go_on P Q t entries p None next first later =
    subst (λ u. EndsWith (next p).stop (Q u (next p).now)) (sym (tallied-append t entries (next p).entries)) (later (tallied t entries) p first)
meets-go_on P Q t entries p (Some AtTooMany) next first later = tt
meets-go_on P Q t entries p (Some AtSpent) next first later = tt
meets-go_on P Q t entries p (Some Astray) next first later = first

-- one part after another
pub meets-and_then : (P Q : Tally → PlainPartition → Type 0) (t : Tally) (m : Progress) (next : PlainPartition → Progress) → Meets P t m → ((u : Tally) (q : PlainPartition) → P u q → Meets Q u (next q)) → Meets Q t (and_then m next)
meets-and_then P Q t m next first later = meets-go_on P Q t m.entries m.now m.stop next first later

ends-weaken : (stop : Option Stop) (P Q : Type 0) → (P → Q) → EndsWith stop P → EndsWith stop Q
ends-weaken None P Q weaker h = weaker h
ends-weaken (Some AtTooMany) P Q weaker h = tt
ends-weaken (Some AtSpent) P Q weaker h = tt
ends-weaken (Some Astray) P Q weaker h = h

-- a weaker fact
pub meets-weaken : (P Q : Tally → PlainPartition → Type 0) (t : Tally) (m : Progress) → ((u : Tally) (q : PlainPartition) → P u q → Q u q) → Meets P t m → Meets Q t m
meets-weaken P Q t m weaker h = ends-weaken m.stop (P (tallied t m.entries) m.now) (Q (tallied t m.entries) m.now) (weaker (tallied t m.entries) m.now) h
