use Rattle.partition_reference.proofs.Prelude.{◌+◌, ◌∙◌, ap, sym, not, length, take, fold, arith, take_all, flat_map, has, added-more, added, implied, subs_with}
use Rattle.partition_reference.proofs.ImpliedNames.{one-more, none-known, none-made, one-further}
use Rattle.partition_reference.proofs.pulling.count_for_event.Goals as goal
use Rattle.partition_reference.proofs.pulling.count_for_event.Goals.{then-is_implied+then-is_new, else-is_implied, else-is_implied-via-then-is_implied+else-is_new, else-is_implied-via-else-is_implied}

pub loop-index-preserved : goal.loop-index-preserved
loop-index-preserved c =
    let event = c.args.event.now in
    let rules = c.args.rules.now in
    let rule = c.index-rules-index.result in
    record {
      count = λ position.
          let base = subs_with rules position c.args.subs.now c.args.earlier.now in
          let before = fold added base (flat_map (implied position event) (take c.loop-index.index rules)) in
          let more = ap length (added-more (implied position event) base rules c.loop-index.index rule c.loop-index-test.true c.index-rules-index.is) in
          let counted = ap (λ n. n + 1) (c.loop-index.invariant.count position) in
          elim c.if-is_implied.branch [
            | then-is_implied+then-is_new w ↦
                let new = ap (λ name. not (has name before)) (sym w.implied_name.ensures) ∙ sym (w.is_new.ensures position) ∙ w.if-is_new.true in
                more ∙ one-more before position event rule (sym c.is_implied.ensures ∙ w.if-is_implied.true) new ∙ counted ∙ one-further (length base) c.loop-index.count c.if-is_implied.count w.count-is
            | else-is_implied w ↦ elim w.else-is_implied.branch [
              | else-is_implied-via-then-is_implied+else-is_new w' ↦
                  let known = ap (λ name. not (has name before)) (sym w'.implied_name.ensures) ∙ sym (w'.is_new.ensures position) ∙ w'.if-is_new.false in
                  more ∙ none-known before position event rule (sym c.is_implied.ensures ∙ w'.if-is_implied.true) known ∙ c.loop-index.invariant.count position ∙ ap (λ n. length base + n) (sym w.count-is)
              | else-is_implied-via-else-is_implied w' ↦
                  more ∙ none-made before position event rule (sym c.is_implied.ensures ∙ w'.if-is_implied.false) ∙ c.loop-index.invariant.count position ∙ ap (λ n. length base + n) (sym w.count-is)
            ]
          ];
      bound = elim c.if-is_implied.branch [ then-is_implied+then-is_new w ↦ omega arith | else-is_implied w ↦ omega arith ];
    }

pub returns : goal.returns
returns c =
    let rules = c.args.rules.now in
    let all = take_all c.loop-index.index rules c.loop-index-test.false in
    record {
      count = λ position.
          ap (λ rules. length (fold added (subs_with c.args.rules.now position c.args.subs.now c.args.earlier.now) (flat_map (implied position c.args.event.now) rules))) (sym all) ∙ c.loop-index.invariant.count position;
      bound = omega arith;
    }
