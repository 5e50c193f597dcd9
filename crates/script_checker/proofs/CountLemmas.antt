-- The counts of a summary.
use Rattle.script_checker.proofs.Prelude.{◌≡◌, ℕ, ◌+◌, ◌-◌, ◌^◌, ◌≤◌, ◌==◌, Bool, true, false, cond, List, [], ◌∷◌, length, get_or, Option, Some, None, min, refl, sym, ap, ◌∙◌, inl, inr, arith, cases_Bool, eqb-true, eqb-false, get_or-set_same, get_or-set_other, get_or-replicate, length-set, StreamId, Command}
use Rattle.std.proofs.lemmas.List.Sums.{sum_by-cons}
use Rattle.script_checker.specs.declared.verb.TheConstants.{VERBS}
use Rattle.script_checker.specs.declared.verb.Verb.{Verb}
use Rattle.script_checker.specs.Counts.{verb_in, number_of}
use Rattle.script_checker.specs.PlainSummary.{PlainSummary}
use Rattle.script_checker.specs.Summaries.{count_of, counted, empty, named, noted, one_more, stream_in}
use Rattle.script_checker.specs.SummaryLaws.{LinesAreCounted, lines_of_verb, noted_all}
use Rattle.script_checker.proofs.VerbPlaces.{number_within}

-- a stream that is named changes no count
counts-named : (summary : PlainSummary) (stream : Option StreamId) → (named summary stream).counts ≡ summary.counts
counts-named summary None = refl
counts-named summary (Some stream) = refl

-- the count of a verb after a line of another, or of itself
count_of-counted : (summary : PlainSummary) (verb other : Verb) → length summary.counts ≡ VERBS → count_of (counted summary verb) other ≡ cond (number_of verb == number_of other) (one_more (count_of summary other)) (count_of summary other)
count_of-counted summary verb other whole =
    elim (cases_Bool (number_of verb == number_of other)) [
      | inl h ↦ rw (h, eqb-true (number_of verb) (number_of other) h) (get_or-set_same summary.counts _ _ 0 (omega (arith, number_within other, whole)))
      | inr h ↦ rw h (get_or-set_other summary.counts _ _ _ 0 (λ e. eqb-false (number_of verb) (number_of other) h (sym e)))
    ]

-- A count goes on from one more where a line is of its verb, and neither is above the most.
count_step : (b : Bool) (x y l most : ℕ) → x ≤ most → y ≡ cond b (min (x + 1) most) x → (y ≤ most) × (min (y + l) most ≡ min (x + (cond b 1 0 + l)) most)
count_step true x y l most small e = (omega (arith, e, small), omega (arith, e, small))
count_step false x y l most small e = (omega (arith, e, small), omega (arith, e, small))

counts_all : (commands : List Command) (summary : PlainSummary) (verb : Verb) → length summary.counts ≡ VERBS → count_of summary verb ≤ 2 ^ 64 - 1
    → count_of (noted_all summary commands) verb ≡ min (count_of summary verb + lines_of_verb verb commands) (2 ^ 64 - 1)
counts_all [] summary verb whole small = omega (arith, small)
counts_all (command ∷ commands) summary verb whole small =
    let before = named summary (stream_in command) in
    let put = counts-named summary (stream_in command) in
    let same : length before.counts ≡ VERBS = ap length put ∙ whole in
    let is = number_of (verb_in command) == number_of verb in
    let now = count_of-counted before (verb_in command) verb same ∙ ap (λ counts. cond is (one_more (get_or counts (number_of verb) 0)) (get_or counts (number_of verb) 0)) put in
    let step = count_step is (count_of summary verb) (count_of (noted summary command) verb) (lines_of_verb verb commands) (2 ^ 64 - 1) small now in
    counts_all commands (noted summary command) verb (length-set before.counts _ _ ∙ same) step.0
    ∙ step.1 ∙ ap (λ lines. min (count_of summary verb + lines) (2 ^ 64 - 1)) (sym (sum_by-cons (λ x. cond (number_of (verb_in x) == number_of verb) 1 0) command commands))

pub counts_of_all : LinesAreCounted
counts_of_all queues commands verb =
    let none : count_of (empty queues) verb ≡ 0 = get_or-replicate VERBS (number_of verb) 0 0 (number_within verb) in
    let all = counts_all commands (empty queues) verb refl (omega (arith, none)) in
    omega (arith, none, all)
