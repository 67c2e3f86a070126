use Rattle.std.proofs.Common.{◌≤◌, ◌+◌, ◌==◌, ◌∙◌, [], sym, ap, Some, arith}
use Rattle.std.specs.List.{slice_split}
use Rattle.eps_quotient.proofs.ReadSteps.{filled, filled_first, last_word, next_word, word_refused, word_put, no_more_words, words_past}
use Rattle.eps_quotient.proofs.read.polynomial.Goals as goal

pub loop-power-init : goal.loop-power-init
loop-power-init c =
    ap (λ p. filled 0 p (slice_split (λ b. b == 44) c.args.text.now)) c.zero-polynomial.ensures ∙ filled_first (slice_split (λ b. b == 44) c.args.text.now)

pub returns-in_err-whole : goal.returns-in_err-whole
returns-in_err-whole c =
    let k = c.loop-power.power in
    let p = c.loop-power.polynomial in
    let rest = c.loop-power.rest.now in
    rw c.from_residual.ensures
    (sym (ap (filled k p) (last_word rest c.in_default.ensures.none) ∙ word_refused k p rest [] (sym c.in_err-whole.ensures)) ∙ c.loop-power.invariant)

pub returns-in_default : goal.returns-in_default
returns-in_default c =
    let k = c.loop-power.power in
    let p = c.loop-power.polynomial in
    let rest = c.loop-power.rest.now in
    let low : k + 1 ≤ 33 = omega arith in
    ap Some c.put.ensures
    ∙ sym (ap (filled k p) (last_word rest c.in_default.ensures.none) ∙ word_put k p rest [] c.in_ok-whole.field-0 (sym c.in_ok-whole.ensures)
    ∙ no_more_words _ _ low)
    ∙ c.loop-power.invariant

pub returns-in_err-whole-2 : goal.returns-in_err-whole-2
returns-in_err-whole-2 c =
    let k = c.loop-power.power in
    let p = c.loop-power.polynomial in
    let rest = c.loop-power.rest.now in
    rw c.from_residual-in_err-whole-2.ensures
    (sym (ap (filled k p) (next_word rest c.in-Some.word.now c.in-Some.more.now c.in-Some.ensures.whole c.in-Some.ensures.first)
    ∙ word_refused k p c.in-Some.word.now _ (sym c.in_err-whole-2.ensures))
    ∙ c.loop-power.invariant)

pub loop-power-preserved : goal.loop-power-preserved
loop-power-preserved c =
    let k = c.loop-power.power in
    let p = c.loop-power.polynomial in
    let rest = c.loop-power.rest.now in
    let more = slice_split (λ b. b == 44) c.in-Some.more.now in
    ap (λ q. filled (k + 1) q more) c.put-in-loop-power.ensures
    ∙ sym (ap (filled k p) (next_word rest c.in-Some.word.now c.in-Some.more.now c.in-Some.ensures.whole c.in-Some.ensures.first)
    ∙ word_put k p c.in-Some.word.now more c.in_ok-whole-2.field-0 (sym c.in_ok-whole-2.ensures))
    ∙ c.loop-power.invariant

pub returns : goal.returns
returns c =
    sym (words_past c.loop-power.power c.loop-power.polynomial c.loop-power.rest.now c.loop-power-test.false) ∙ c.loop-power.invariant
