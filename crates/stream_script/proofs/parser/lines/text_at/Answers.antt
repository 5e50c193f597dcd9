use Rattle.stream_script.proofs.Prelude.{◌∷◌, [], List, ℕ, ◌≡◌, ◌∙◌, ◌++◌, ◌-◌, take, ap, sym, length, arith, drop, take_rest}
use Rattle.stream_script.specs.Lexer.{InText, Closed, cut}
use Rattle.stream_script.specs.Pieces.{is_special}
use Rattle.stream_script.proofs.PieceLemmas.{up_to, cut-in_text, cut-quote, cut-escape, cut-text_stuck, CutsOne-along}
use Rattle.stream_script.proofs.parser.lines.text_at.Goals as goal

pub returns-then-begins_with-clause-exact : goal.returns-then-begins_with-clause-exact
returns-then-begins_with-clause-exact c =
    let bytes = c.args.bytes.now in
    let special = c.split_at.result.1.now in
    let text = c.loop-text.text.items in
    let plain = c.split_at.result.0.now in
    let begun = up_to InText is_special cut-in_text text c.loop-text.rest.now plain special c.plain_len.result c.plain_len.ensures.exact c.split_at.ensures.front c.split_at.ensures.back in
    let quoted = cut-quote (text ++ plain) special (sym c.begins_with.ensures ∙ c.if-begins_with.true) in
    let items = ap (λ (t : List ℕ). cut (Closed t) (drop 1 special)) (sym c.in_ok-extend_from_slice.ensures.items) in
    let rest = ap (λ (r : List ℕ). cut (Closed c.extend_from_slice.new.self.items) r) (sym (take_rest special 1)) in
    CutsOne-along (InText []) (Closed c.extend_from_slice.new.self.items) bytes (take (length special - 1) (drop 1 special)) _ (sym c.loop-text.invariant.0 ∙ (begun.0 ∙ (quoted ∙ (items ∙ rest)))) c.closed.ensures.exact

pub returns-in_default-clause-exact : goal.returns-in_default-clause-exact
returns-in_default-clause-exact c =
    let special = c.split_at.result.1.now in
    let text = c.loop-text.text.items in
    let plain = c.split_at.result.0.now in
    let begun = up_to InText is_special cut-in_text text c.loop-text.rest.now plain special c.plain_len.result c.plain_len.ensures.exact c.split_at.ensures.front c.split_at.ensures.back in
    let stuck = cut-text_stuck (text ++ plain) special begun.1 (sym c.begins_with.ensures ∙ c.if-begins_with.false) (sym c.in_default.ensures) in
    sym c.loop-text.invariant.0 ∙ (begun.0 ∙ stuck)

pub loop-text-preserved : goal.loop-text-preserved
loop-text-preserved c =
    let special = c.split_at.result.1.now in
    let text = c.loop-text.text.items in
    let plain = c.split_at.result.0.now in
    let after = c.in-Some.after.now in
    let begun = up_to InText is_special cut-in_text text c.loop-text.rest.now plain special c.plain_len.result c.plain_len.ensures.exact c.split_at.ensures.front c.split_at.ensures.back in
    let escape = cut-escape (text ++ plain) special c.in-Some.byte after (sym c.in-Some.ensures) in
    let items : c.push.new.self.items ≡ text ++ plain ++ c.in-Some.byte ∷ [] = c.in_ok-push.ensures.items ∙ ap (λ (t : List ℕ). t ++ c.in-Some.byte ∷ []) c.in_ok-extend_from_slice.ensures.items in
    (ap (λ (t : List ℕ). cut (InText t) after) items ∙ (sym escape.0 ∙ (sym begun.0 ∙ c.loop-text.invariant.0)), omega (arith, escape.1))

pub loop-text-smaller : goal.loop-text-smaller
loop-text-smaller c =
    let escape = cut-escape [] c.split_at.result.1.now c.in-Some.byte c.in-Some.after.now (sym c.in-Some.ensures) in
    omega (arith, escape.1)
