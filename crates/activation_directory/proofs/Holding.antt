-- A permit that is out stays out until it is given back or the grain is taken from the silo that had it.
use Rattle.activation_directory.proofs.Prelude.{◌≡◌, ◌∙◌, ℕ, suc, true, false, List, [], ◌∷◌, ◌++◌, Option, Some, None, refl, sym, ap, subst, arith, cond_both, eqb-true, ◌⊎◌, ◌==◌, same_grain-equal, same_grain, GrainId}
use mathlib.Core.Logic.{inl, inr}
use Rattle.activation_directory.specs.declared.op.DirectoryOp.{DirectoryOp}
use Rattle.activation_directory.specs.declared.op.DirectoryOp.TheVariants.{Enter, Leave, Unplace, Down}
use Rattle.activation_directory.specs.declared.place.Place.{Place}
use Rattle.activation_directory.specs.declared.reply.DirectoryReply.{DirectoryReply}
use Rattle.activation_directory.specs.declared.reply.DirectoryReply.TheVariants.{Entered, Left, Released}
use Rattle.activation_directory.specs.Laws.{IsFreed, entered}
use Rattle.activation_directory.specs.Placed.{place_in, without, least_on, count_on}
use Rattle.activation_directory.specs.Plain.{PlainDirectory}
use Rattle.activation_directory.specs.Step.{Entry, Leads, enter, leave, unplace, down, step}
use Rattle.activation_directory.proofs.Cases.{enter-cases, leave-cases, unplace-cases}
use Rattle.activation_directory.proofs.Histories.{IsFreed-later}
use Rattle.activation_directory.proofs.PlacedLemmas.{place_in-here, place_in-other, place_in-without}
use Rattle.activation_directory.proofs.Unique.{IsPlacedOn, IsUnique, least_on-placed, unique-step}

-- the grain is placed on the silo, and its permit is out
abbrev pub Holds : GrainId → ℕ → ℕ → PlainDirectory → Type 0
Holds grain silo permit d = place_in d.placed grain ≡ Some (record { silo = silo; permit = Some permit })

-- an operation and its reply free the permit of the grain
abbrev Frees : GrainId → ℕ → ℕ → DirectoryOp → DirectoryReply → Type 0
Frees grain silo permit op reply =
    ((op ≡ Leave grain permit) × (reply ≡ Left)) ⊎ ((count : ℕ) × (op ≡ Down silo) × (reply ≡ Released grain count))

abbrev Goes : GrainId → ℕ → ℕ → DirectoryOp → PlainDirectory × DirectoryReply → Type 0
Goes grain silo permit op stepped = Holds grain silo permit stepped.0 ⊎ Frees grain silo permit op stepped.1

-- operations on the grain itself
module _ (d : PlainDirectory) (grain : GrainId) (silo permit : ℕ) (holds : Holds grain silo permit d) (unique : IsUnique d.placed) where
  enter-same : (asked : ℕ) → Goes grain silo permit (Enter grain asked) (step d (Enter grain asked))
  enter-same asked =
      subst (λ found. Goes grain silo permit (Enter grain asked) (enter d grain asked found)) (sym holds)
      (cond_both (silo == asked) _ _ (Goes grain silo permit (Enter grain asked)) (λ here. inl holds) (λ elsewhere. inl holds))

  leave-same : (given : ℕ) → Goes grain silo permit (Leave grain given) (step d (Leave grain given))
  leave-same given =
      subst (λ found. Goes grain silo permit (Leave grain given) (leave d grain given found)) (sym holds)
      (cond_both (permit == given) _ _ (Goes grain silo permit (Leave grain given)) (λ is. inr (inl (ap (Leave grain) (sym (eqb-true permit given is)), refl))) (λ not. inl holds))

  unplace-same : Goes grain silo permit (Unplace grain) (step d (Unplace grain))
  unplace-same = subst (λ found. Goes grain silo permit (Unplace grain) (unplace d grain found)) (sym holds) (inl holds)

  -- the grain that goes down is on the silo that is gone
  down-same : (gone : ℕ) → IsPlacedOn gone d.placed grain → Down gone ≡ Down silo
  down-same gone on =
      let found : Some on.0 ≡ Some (record { silo = silo; permit = Some permit }) = sym on.1 ∙ holds in
      let is : on.0.silo ≡ silo = cc in
      ap Down (sym (eqb-true on.0.silo gone on.2) ∙ is)

  down-any : (gone : ℕ) (found : Option GrainId) → least_on gone d.placed ≡ found → Goes grain silo permit (Down gone) (down d gone found)
  down-any gone None is = inl holds
  down-any gone (Some other) is =
      (elim (same_grain grain other) as (λ b. same_grain grain other ≡ b → Goes grain silo permit (Down gone) (down d gone (Some other))) [
        | true ↦ λ same.
            let equal = same_grain-equal grain other same in
            let on = subst (IsPlacedOn gone d.placed) (sym equal) (least_on-placed gone d.placed other unique is) in
            inr (inr (count_on gone (without d.placed other), down-same gone on, ap (λ g. Released g (count_on gone (without d.placed other))) (sym equal)))
        | false ↦ λ apart. inl (place_in-without d.placed grain other apart ∙ holds)
      ]) refl

  -- one step: on this grain, or on another, whose place is not this one's
  either : (op : GrainId → DirectoryOp) (other : GrainId) → Goes grain silo permit (op grain) (step d (op grain)) → (same_grain grain other ≡ false → place_in (step d (op other)).0.placed grain ≡ place_in d.placed grain)
      → Goes grain silo permit (op other) (step d (op other))
  either op other on off =
      (elim (same_grain grain other) as (λ b. same_grain grain other ≡ b → Goes grain silo permit (op other) (step d (op other))) [
        | true ↦ λ same. subst (λ g. Goes grain silo permit (op g) (step d (op g))) (same_grain-equal grain other same) on
        | false ↦ λ apart. inl (off apart ∙ holds)
      ]) refl

  abbrev Rests : PlainDirectory × DirectoryReply → Type 0
  Rests stepped = place_in stepped.0.placed grain ≡ place_in d.placed grain

  keeps : (op : DirectoryOp) → Goes grain silo permit op (step d op)
  keeps (Enter other asked) = either (λ g. Enter g asked) other (enter-same asked)
      (λ apart. enter-cases Rests d other asked (place_in d.placed other) (λ more. place_in-other d.placed grain other _ apart) (λ spent. refl) refl (λ away there. refl))
  keeps (Leave other given) = either (λ g. Leave g given) other (leave-same given) (λ apart. leave-cases Rests d other given (place_in d.placed other) refl (λ place. place_in-other d.placed grain other place apart))
  keeps (Unplace other) = either Unplace other unplace-same (λ apart. unplace-cases Rests d other (place_in d.placed other) refl refl (place_in-without d.placed grain other apart))
  keeps (Down gone) = down-any gone (least_on gone d.placed) refl

  -- no second permit
  refused : (asked other : ℕ) → (step d (Enter grain asked)).1 ≡ Entered other → ⊥
  refused asked other =
      subst (λ found. (enter d grain asked found).1 ≡ Entered other → ⊥) (sym holds)
      (cond_both (silo == asked) _ _ (λ (stepped : PlainDirectory × DirectoryReply). stepped.1 ≡ Entered other → ⊥) (λ here told. absurd (cc)) (λ elsewhere told. absurd (cc)))

-- an entry whose operation and reply free the permit
freed : (x : Entry) (xs : List Entry) (grain : GrainId) (silo permit : ℕ) → Frees grain silo permit x.op x.reply → IsFreed (x ∷ xs) grain silo permit
freed x xs grain silo permit (inl gave) = inl (0, omega arith, λ i. record { op = gave.0 i; reply = gave.1 i })
freed x xs grain silo permit (inr fell) = inr (fell.0, (0, omega arith, λ i. record { op = fell.1 i; reply = fell.2 i }))

-- until the grain is entered again
pub until : (d : PlainDirectory) (grain : GrainId) (silo permit : ℕ) → Holds grain silo permit d → IsUnique d.placed
    → (between later : List Entry) (e : PlainDirectory) (asked other : ℕ) → Leads d (between ++ entered grain asked other ∷ later) e → IsFreed between grain silo permit
until d grain silo permit holds unique [] later e asked other leads = absurd (refused d grain silo permit holds unique asked other leads.0)
until d grain silo permit holds unique (x ∷ xs) later e asked other leads =
    by (keeps d grain silo permit holds unique x.op)
    (λ held. until (step d x.op).0 grain silo permit held (unique-step d unique x.op) xs later e asked other leads.1)
  where
    by : Goes grain silo permit x.op (step d x.op) → (Holds grain silo permit (step d x.op).0 → IsFreed xs grain silo permit) → IsFreed (x ∷ xs) grain silo permit
    by (inl held) rest = IsFreed-later x xs grain silo permit (rest held)
    by (inr frees) rest = freed x xs grain silo permit (subst (λ reply. Frees grain silo permit x.op reply) leads.0 frees)

-- a grain that was entered holds its permit
pub held-enter : (d : PlainDirectory) (grain : GrainId) (silo permit : ℕ) (found : Option Place) → (enter d grain silo found).1 ≡ Entered permit → Holds grain silo permit (enter d grain silo found).0
held-enter d grain silo permit found =
    enter-cases (λ stepped. stepped.1 ≡ Entered permit → Holds grain silo permit stepped.0) d grain silo found
    (λ more told. let same : suc d.given ≡ permit = cc in place_in-here d.placed grain _ ∙ ap {B = Option Place} (λ n. Some (record { silo = silo; permit = Some n })) same)
    (λ spent told. absurd (cc)) (λ told. absurd (cc)) (λ other away told. absurd (cc))
