-- How many permits a history gives, and their numbers.
use Rattle.activation_directory.proofs.Prelude.{◌≡◌, ◌∙◌, ℕ, suc, ◌+◌, ◌≤◌, Bool, true, false, List, [], ◌∷◌, length, filter, Option, refl, sym, ap, subst, arith, ltb-true, ltb-false, if◌then◌else◌, GrainId}
use Rattle.activation_directory.specs.declared.op.DirectoryOp.{DirectoryOp}
use Rattle.activation_directory.specs.declared.place.Place.{Place}
use Rattle.activation_directory.specs.declared.reply.DirectoryReply.{DirectoryReply}
use Rattle.activation_directory.specs.declared.reply.DirectoryReply.TheVariants.{Entered, Spent}
use Rattle.activation_directory.specs.Laws.{is_permit, permits_given}
use Rattle.activation_directory.specs.Plain.{PlainDirectory, empty}
use Rattle.activation_directory.specs.Step.{Entry, Leads, Stands, enter, step}
use Rattle.activation_directory.proofs.Cases.{enter-cases, step-cases}

-- one, where a permit is given
abbrev pub one : DirectoryReply → ℕ
one reply = if is_permit reply then 1 else 0

-- a step counts the permit that it gives, and stays within the limit
abbrev Counts : PlainDirectory → PlainDirectory × DirectoryReply → Type 0
Counts d stepped = (stepped.0.given ≡ one stepped.1 + d.given) × (stepped.0.permits ≡ d.permits) × (d.given ≤ d.permits → stepped.0.given ≤ d.permits)

gives-none : (reply : DirectoryReply) → is_permit reply ≡ false → one reply ≡ 0
gives-none reply none = ap (λ (b : Bool). if b then 1 else 0) none

counts-step : (d : PlainDirectory) (op : DirectoryOp) → Counts d (step d op)
counts-step d op = step-cases (Counts d) d op
    (λ reply none. (omega (arith, gives-none reply none), refl, λ fits. fits)) (λ grain place more. (omega arith, refl, λ fits. ltb-true d.given d.permits more))
    (λ grain place. (omega arith, refl, λ fits. fits)) (λ grain reply none. (omega (arith, gives-none reply none), refl, λ fits. fits))

given-first : (x : Entry) (xs : List Entry) → permits_given (x ∷ xs) ≡ one x.reply + permits_given xs
given-first x xs =
    (elim (is_permit x.reply) as (λ b. length (if b then x ∷ filter (λ (y : Entry). is_permit y.reply) xs else filter (λ (y : Entry). is_permit y.reply) xs) ≡ (if b then 1 else 0) + permits_given xs) [
      | true ↦ omega arith
      | false ↦ omega arith
    ])

-- along entries as many more are given as they have permits, and no more than the limit
pub counts-leads : (d : PlainDirectory) (entries : List Entry) (e : PlainDirectory) → Leads d entries e → d.given ≤ d.permits
    → (e.given ≡ permits_given entries + d.given) × (e.permits ≡ d.permits) × (e.given ≤ d.permits)
counts-leads d [] e same fits = (omega (arith, ap (λ (x : PlainDirectory). x.given) same), ap (λ (x : PlainDirectory). x.permits) same, subst (λ (x : PlainDirectory). x.given ≤ d.permits) (sym same) fits)
counts-leads d (x ∷ xs) e leads fits =
    let first = counts-step d x.op in
    let given : (step d x.op).0.given ≡ one x.reply + d.given = first.0 ∙ ap (λ reply. one reply + d.given) leads.0 in
    let rest = counts-leads (step d x.op).0 xs e leads.1 (omega (arith, first.1, first.2 fits)) in
    (omega (arith, given, rest.0, given-first x xs), rest.1 ∙ first.1, omega (arith, rest.2, first.1))

-- a legal history
pub counts-history : (permits : ℕ) (history : List Entry) (d : PlainDirectory) → Stands permits history d
    → (d.given ≡ permits_given history) × (d.permits ≡ permits) × (d.given ≤ permits)
counts-history permits history d stands =
    let all = counts-leads (empty permits) history d stands (omega arith) in
    let given : d.given ≡ permits_given history + 0 = all.0 in
    (omega arith, all.1, all.2)

pub grows-leads : (d : PlainDirectory) (entries : List Entry) (e : PlainDirectory) → Leads d entries e → d.given ≤ e.given
grows-leads d [] e same = omega (arith, ap (λ (x : PlainDirectory). x.given) same)
grows-leads d (x ∷ xs) e leads = omega (arith, (counts-step d x.op).0, grows-leads (step d x.op).0 xs e leads.1)

-- a refusal as spent comes where no more may be given
pub last-enter : (d : PlainDirectory) (grain : GrainId) (silo : ℕ) (found : Option Place) → (enter d grain silo found).1 ≡ Spent → d.permits ≤ d.given
last-enter d grain silo found =
    enter-cases (λ stepped. stepped.1 ≡ Spent → d.permits ≤ d.given) d grain silo found (λ more told. absurd (cc)) (λ spent told. ltb-false d.given d.permits spent) (λ told. absurd (cc)) (λ other away told. absurd (cc))

-- the permit that is given is the next one
pub numbered-enter : (d : PlainDirectory) (grain : GrainId) (silo permit : ℕ) (found : Option Place) → (enter d grain silo found).1 ≡ Entered permit → (permit ≡ suc d.given) × ((enter d grain silo found).0.given ≡ permit)
numbered-enter d grain silo permit found =
    enter-cases (λ stepped. stepped.1 ≡ Entered permit → (permit ≡ suc d.given) × (stepped.0.given ≡ permit)) d grain silo found
    (λ more told. let same : suc d.given ≡ permit = cc in (sym same, same)) (λ spent told. absurd (cc)) (λ told. absurd (cc)) (λ other away told. absurd (cc))
