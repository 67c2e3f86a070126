use Rattle.std.proofs.Common.{◌≡◌, ◌<◌, ◌∙◌, sym, get_or, length, None, Some, false, arith}
use Rattle.std.proofs.lemmas.Bool.{eqb-true, eqb-false}
use Rattle.numerals.specs.declared.numeral_machine.State.TheVariants.{Start}
use Rattle.numerals.specs.DecimalMachine.{class_of}
use Rattle.numerals.specs.NumeralMachine.{step}
use Rattle.numerals.proofs.Accepted.{reads}
use Rattle.numerals.proofs.Scan.{reached, reads_on, reached_on, reads_off, reached_off, reads_end, reached_end, checked_empty, checked_numeral, checked_bad}
use Rattle.numerals.proofs.check.check.Goals as goal

pub returns-then-is_empty : goal.returns-then-is_empty
returns-then-is_empty c = checked_empty c.args.text.now (eqb-true (length c.args.text.now) 0 (sym c.is_empty.ensures ∙ c.if-is_empty.true))

pub returns-in-None : goal.returns-in-None
returns-in-None c =
    let text = c.args.text.now in
    let e : step c.loop-at.state (class_of (get_or text c.loop-at.at 0)) ≡ None = rw (← c.class_of.ensures) (sym c.step.ensures ∙ c.in-None.is) in
    let some : 0 < length text = omega (arith, eqb-false (length text) 0 (sym c.is_empty.ensures ∙ c.if-is_empty.false)) in
    let a = reads_off text c.loop-at.at c.loop-at.state c.loop-at-test.true e in
    let n = reached_off text c.loop-at.at c.loop-at.state c.loop-at-test.true e in
    let counted : reached text Start ≡ c.loop-at.at = omega (arith, n, c.loop-at.invariant.counted) in
    checked_bad text c.loop-at.at some (sym c.loop-at.invariant.same ∙ a) counted

pub loop-at-preserved : goal.loop-at-preserved
loop-at-preserved c =
    let text = c.args.text.now in
    let e : step c.loop-at.state (class_of (get_or text c.loop-at.at 0)) ≡ Some c.in-Some.next =
    rw (← c.class_of.ensures) (sym c.step.ensures ∙ c.in-Some.is) in
    let a = reads_on text c.loop-at.at c.loop-at.state c.in-Some.next c.loop-at-test.true e in
    let n = reached_on text c.loop-at.at c.loop-at.state c.in-Some.next c.loop-at-test.true e in
    record { same = sym a ∙ c.loop-at.invariant.same; counted = omega (arith, n, c.loop-at.invariant.counted) }

pub returns-then-is_final : goal.returns-then-is_final
returns-then-is_final c =
    let text = c.args.text.now in
    checked_numeral text (sym c.loop-at.invariant.same ∙ reads_end text c.loop-at.at c.loop-at.state c.loop-at-test.false ∙ sym c.is_final.ensures
    ∙ c.if-is_final.true)

pub returns-else-is_final : goal.returns-else-is_final
returns-else-is_final c =
    let text = c.args.text.now in
    let some : 0 < length text = omega (arith, eqb-false (length text) 0 (sym c.is_empty.ensures ∙ c.if-is_empty.false)) in
    let a : reads text Start ≡ false = sym c.loop-at.invariant.same ∙ reads_end text c.loop-at.at c.loop-at.state c.loop-at-test.false
    ∙ sym c.is_final.ensures ∙ c.if-is_final.false in
    let counted : reached text Start ≡ length text = omega
    (arith, reached_end text c.loop-at.at c.loop-at.state c.loop-at-test.false, c.loop-at.invariant.counted) in
    checked_bad text (length text) some a counted
