use Rattle.stream_script.proofs.Prelude.{ℕ, List, Option, ◌++◌, take, drop, ◌∙◌, append_assoc, Appends-trans, take-append-drop, Appends}
use Rattle.stream_script.specs.Transfers.{AppendsUpTo}
use Rattle.stream_script.proofs.source_sink.write_all.Goals as goal

-- a write took the front of the rest
more_appended : (a b c : Option (List ℕ)) (text rest : List ℕ) (n : ℕ) → AppendsUpTo a b text rest → Appends b c (take n rest) → AppendsUpTo a c text (drop n rest)
more_appended a b c text rest n so_far more =
    let front = so_far.0 in
    (front ++ take n rest, rw (append_assoc front (take n rest) (drop n rest), take-append-drop n rest) so_far.1, Appends-trans a b c front (take n rest) so_far.2 more)

pub loop-rest-preserved : goal.loop-rest-preserved
loop-rest-preserved g c = record {
  failures = c.in-Ok.ensures.counted ∙ c.loop-rest.invariant.failures;
  written = rw c.after-rest.ensures (more_appended _ _ _ c.args.bytes.now c.loop-rest.rest.now c.in-Ok.count c.loop-rest.invariant.written c.in-Ok.ensures.bytes);
}
