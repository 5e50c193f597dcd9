use Rattle.stream_script.proofs.Prelude.{◌∙◌, arith, refl, sym}
use Rattle.stream_script.proofs.Texts.{appended, escapes-all, escapes-plain, escapes-special, writes_failed, writes_then}
use Rattle.stream_script.proofs.printer.parts.push_escaped.Goals as goal
use Rattle.stream_script.proofs.printer.parts.push_escaped.Goals.{then-is_special+in_ok-push_text+in_ok-push_text-2, else-is_special}

pub returns-in_err-push_text : goal.returns-in_err-push_text
returns-in_err-push_text c = writes_failed c.args.out.now.items c.loop-at.out.items _ _ _ _ c.loop-at.invariant.stands c.in_err-push_text.ensures c.from_residual.ensures.0

pub returns-in_err-push_text-2 : goal.returns-in_err-push_text-2
returns-in_err-push_text-2 c =
    let so_far = appended c.args.out.now.items c.loop-at.out.items c.push_text.new.out.items _ _ _ c.loop-at.invariant.stands c.in_ok-push_text.ensures refl in
    writes_failed c.args.out.now.items c.push_text.new.out.items _ _ _ _ so_far c.in_err-push_text-2.ensures c.from_residual-in_err-push_text-2.ensures.0

pub loop-at-preserved : goal.loop-at-preserved
loop-at-preserved c =
    elim c.if-is_special.branch [
      | then-is_special+in_ok-push_text+in_ok-push_text-2 w ↦ rw w.out-is (rw w.from-is (escapes-special c.args.out.now.items c.loop-at.out.items c.args.bytes.now c.loop-at.from c.loop-at.at c.loop-at.invariant c.loop-at-test.true _ _ (sym c.is_special.ensures ∙ w.if-is_special.true) w.in_ok-push_text.ensures w.in_ok-push_text-2.ensures))
      | else-is_special w ↦ rw w.out-is (rw w.from-is (escapes-plain c.args.out.now.items c.loop-at.out.items c.args.bytes.now c.loop-at.from c.loop-at.at c.loop-at.invariant c.loop-at-test.true (sym c.is_special.ensures ∙ w.if-is_special.false)))
    ]

pub returns : goal.returns
returns c =
    let i = c.loop-at.invariant in
    writes_then c.args.out.now.items c.loop-at.out.items _ c.push_text-2.result i.front _ _ i.stands c.push_text-2.ensures (escapes-all c.args.out.now.items c.loop-at.out.items c.args.bytes.now c.loop-at.from c.loop-at.at i (omega (arith, c.loop-at-test.false, c.loop-at.auto.at-end)))
