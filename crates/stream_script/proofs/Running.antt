-- Lines done one after another: what was written, and then what the rest writes, is what all write.
use Rattle.stream_script.proofs.Prelude.{ℕ, List, ◌∷◌, Option, None, Some, Ok, ◌≡◌, suc, ◌+◌, ◌++◌, sym, ap, ◌∙◌, append_assoc, add-one, Appends-trans, Appends, PlainPartition}
use Rattle.stream_script.specs.declared.parser.command.Fault.{Fault}
use Rattle.stream_script.specs.declared.simulate.SimConfig.{SimConfig}
use Rattle.stream_script.specs.Simulation.{Outcome, with_text, and_then, run_line, run_lines, RunsLine}
use Rattle.stream_script.specs.Transfers.{AppendsFront}

-- some text went out, and with the rest behind it that is the whole
pub record Reaches (old new : Option (List ℕ)) (whole rest : Outcome) : Type 0 where
  pub text : List ℕ
  pub appended : Appends old new text
  pub joined : whole ≡ with_text text rest

with_texts : (front text : List ℕ) (rest : Outcome) → with_text front (with_text text rest) ≡ with_text (front ++ text) rest
with_texts front text rest = ap (λ bytes. record { text = bytes; fault = rest.fault }) (sym (append_assoc front text rest.text))

-- the next text went out
pub goes_on : (a b c : Option (List ℕ)) (whole rest next : Outcome) (text : List ℕ) → Reaches a b whole rest → rest ≡ with_text text next → Appends b c text → Reaches a c whole next
goes_on a b c whole rest next text so_far here more = record {
  text = so_far.text ++ text;
  appended = Appends-trans a b c so_far.text text so_far.appended more;
  joined = so_far.joined ∙ ap (with_text so_far.text) here ∙ with_texts so_far.text text next;
}

-- a front of the next text went out
pub stops : (a b c : Option (List ℕ)) (whole rest next : Outcome) (text : List ℕ) → Reaches a b whole rest → rest ≡ with_text text next → AppendsFront b c text → AppendsFront a c whole.text
stops a b c whole rest next text so_far here more =
    let left = more.1 ++ next.text in
    let rest_text : rest.text ≡ more.0 ++ left = ap (λ outcome. outcome.text) here ∙ ap (λ bytes. bytes ++ next.text) more.2 ∙ append_assoc more.0 more.1 next.text in
    let whole_text : whole.text ≡ so_far.text ++ rest.text = ap (λ outcome. outcome.text) so_far.joined in
    (so_far.text ++ more.0, left, whole_text ∙ ap (λ bytes. so_far.text ++ bytes) rest_text ∙ sym (append_assoc so_far.text more.0 left), Appends-trans a b c so_far.text more.0 so_far.appended more.3)

-- the next line is done
pub line_done : (config own : SimConfig) (number : ℕ) (partitions after : List PlainPartition) (left more : List (List ℕ)) (line text : List ℕ) (fault : Option Fault)
    → left ≡ line ∷ more → own ≡ config → fault ≡ None → RunsLine (run_line own number partitions line) (after, text) (Ok fault)
    → run_lines config number partitions left ≡ with_text text (run_lines config (number + 1) after more)
line_done config own number partitions after left more line text (Some fault) next same none ran = absurd cc
line_done config own number partitions after left more line text None next same none ran =
    let done : run_line config number partitions line ≡ Ok (after, text) = ap (λ c. run_line c number partitions line) (sym same) ∙ ran in
    rw add-one (ap (run_lines config number partitions) next ∙ ap (and_then (λ a. run_lines config (suc number) a more)) done)
