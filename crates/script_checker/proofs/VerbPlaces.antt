-- Each verb stands in the list of all at its number, and at no other place.
use Rattle.script_checker.proofs.Prelude.{◌≡◌, ◌∙◌, ℕ, zero, suc, ◌+◌, ◌<◌, List, [], ◌∷◌, length, Some, refl, sym, ap, subst, arith, rules, range_with_len}
use Rattle.std.proofs.lemmas.Grind.{common_steps}
use Rattle.std.proofs.lemmas.Option.{slice_get_within}
use Rattle.std.specs.Prelude.{map, slice_get}
use Rattle.script_checker.specs.declared.verb.TheConstants.{ALL, VERBS}
use Rattle.script_checker.specs.declared.verb.Verb.{Verb}
use Rattle.script_checker.specs.Counts.{number_of}
use Rattle.script_checker.specs.SummaryLaws.{VerbsStandOnce}

pub at_its_number : (verb : Verb) → slice_get ALL (number_of verb) ≡ Some verb
at_its_number verb = first_of (search rules, grind (arith, common_steps))

pub number_within : (verb : Verb) → number_of verb < VERBS
number_within verb = slice_get_within ALL (number_of verb) verb (at_its_number verb)

-- in a list whose numbers rise by one from here on, a verb at a place has the number of the place
number_at : (from : ℕ) (verbs : List Verb) → map number_of verbs ≡ range_with_len from (length verbs) → (place : ℕ) (verb : Verb) → slice_get verbs place ≡ Some verb → number_of verb ≡ from + place
number_at from [] rise place verb here = absurd (cc here)
number_at from (first ∷ rest) rise zero verb here =
    let same : first ≡ verb = cc here in
    let number : number_of first ≡ from = cc rise in
    ap number_of (sym same) ∙ (number ∙ omega arith)
number_at from (first ∷ rest) rise (suc place) verb here =
    let behind : map number_of rest ≡ range_with_len (from + 1) (length rest) = cc rise in
    number_at (from + 1) rest behind place verb here ∙ omega arith

pub stands_once : VerbsStandOnce
stands_once verb place = (
  λ here. sym (number_at 0 ALL refl place verb here ∙ omega arith),
  λ same. subst (λ k. slice_get ALL k ≡ Some verb) (sym same) (at_its_number verb),
)
