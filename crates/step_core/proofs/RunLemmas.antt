-- Operations one after another, and one more.
use Rattle.step_core.proofs.Prelude.{◌≡◌, ◌<◌, List, [], ◌∷◌, ◌++◌, length, refl, sym, ap, ◌∙◌, arith, inl, Reply, after_steps, replies_of, Op, PlainPartition}
use Rattle.std.proofs.Common.{append_assoc, append-nil}
use Rattle.stream_model.specs.Step.{step}
use Rattle.step_core.specs.Run.{Does, StopsBefore}

after_steps-more : (p : PlainPartition) (ops : List Op) (op : Op) → after_steps p (ops ++ op ∷ []) ≡ (step (after_steps p ops) op).0
after_steps-more p [] op = refl
after_steps-more p (first ∷ ops) op = after_steps-more (step p first).0 ops op

replies_of-more : (p : PlainPartition) (ops : List Op) (op : Op) → replies_of p (ops ++ op ∷ []) ≡ replies_of p ops ++ (step (after_steps p ops) op).1 ∷ []
replies_of-more p [] op = refl
replies_of-more p (first ∷ ops) op = ap (λ replies. (step p first).1 ∷ replies) (replies_of-more (step p first).0 ops op)

-- one more operation is done
pub Does-more : (done : List Op) (op : Op) (old mid new : PlainPartition) (before after : List Reply) (told : Reply)
    → Does done old mid before after → (new, told) ≡ step mid op → Does (done ++ op ∷ []) old new before (after ++ told ∷ [])
Does-more done op old mid new before after told so_far is_step = record {
  state = ap (λ (out : PlainPartition × Reply). out.0) is_step ∙ ap (λ p. (step p op).0) so_far.state ∙ sym (after_steps-more old done op);
  replies =
      ap (λ replies. replies ++ told ∷ []) so_far.replies
      ∙ append_assoc before (replies_of old done) (told ∷ [])
      ∙ ap (λ reply. before ++ (replies_of old done ++ reply ∷ [])) (ap (λ (out : PlainPartition × Reply). out.1) is_step ∙ ap (λ p. (step p op).1) so_far.state)
      ∙ ap (λ replies. before ++ replies) (sym (replies_of-more old done op));
}

-- nothing is done, for want of room for the replies
pub stops-at-once : (ops : List Op) (p : PlainPartition) (replies : List Reply) → 0 < length ops → StopsBefore ops p p replies replies
stops-at-once [] p replies some = absurd (omega (arith, some))
stops-at-once (op ∷ ops) p replies some = record {
  done = [];
  next = op;
  rest = ops;
  ops_are = refl;
  does = record { state = refl; replies = sym (append-nil replies) };
  wants = inl refl;
}
