use Rattle.stream_script.proofs.Prelude.{◌∷◌, [], ℕ, List, Some, ◌≡◌, ◌∙◌, ◌++◌, ◌+◌, ◌<◌, length, slice_get, take, append_assoc, ap, sym, arith, append-nil, take_all, take_more, flat_map, get_or_from_slice_get}
use Rattle.step_core.specs.Reads.{summaries_in_order}
use Rattle.std.proofs.lemmas.List.Concat.{flat_map-append}
use Rattle.step_core.specs.declared.reading.SubSummary.{SubSummary}
use Rattle.stream_script.specs.Report.{summary_text}
use Rattle.stream_script.proofs.Texts.{writes_failed}
use Rattle.stream_script.proofs.printer.report.push_queue.Goals as goal

-- the text of one more
text-more : {X : Type 0} (text : X → List ℕ) (xs : List X) (i : ℕ) (x : X) → i < length xs → slice_get xs i ≡ Some x → flat_map text (take (i + 1) xs) ≡ flat_map text (take i xs) ++ text x
text-more {X} text xs i x within found =
    ap (flat_map text) (take_more xs i x within ∙ ap (λ (last : X). take i xs ++ last ∷ []) (get_or_from_slice_get xs i x x found))
    ∙ flat_map-append text (take i xs) (x ∷ []) ∙ ap (λ last. flat_map text (take i xs) ++ last) (append-nil (text x))

pub sub_at-requires : goal.sub_at-requires
sub_at-requires c = omega (arith, c.loop-place-test.true, c.sub_count-place-end.ensures)

pub returns-in_err-push_sub : goal.returns-in_err-push_sub
returns-in_err-push_sub c = writes_failed c.args.out.now.items c.loop-place.out.items _ _ _ _ c.loop-place.invariant c.in_err-push_sub.ensures c.from_residual.ensures.0

pub loop-place-preserved : goal.loop-place-preserved
loop-place-preserved c =
    let p = c.args.partition.now in
    let all = summaries_in_order p in
    let place = c.loop-place.place in
    let lines = summary_text c.args.queue p c.sub_at.result in
    let front = flat_map (summary_text c.args.queue p) (take place all) in
    c.in_ok-push_sub.ensures
    ∙ ap (λ (text : List ℕ). text ++ lines) c.loop-place.invariant
    ∙ append_assoc c.args.out.now.items front lines
    ∙ ap (λ (text : List ℕ). c.args.out.now.items ++ text)
    (sym (text-more (summary_text c.args.queue p) all place c.sub_at.result (omega (arith, c.loop-place-test.true, c.sub_count-place-end.ensures)) c.sub_at.ensures))

pub returns : goal.returns
returns c =
    let p = c.args.partition.now in
    c.loop-place.invariant
    ∙ ap (λ (all : List SubSummary). c.args.out.now.items ++ flat_map (summary_text c.args.queue p) all)
    (take_all c.loop-place.place (summaries_in_order p) (omega (arith, c.loop-place-test.false, c.sub_count-place-end.ensures)))
