use Rattle.std.proofs.Common.{◌≡◌, ◌∙◌, sym, ap, length, true, false, arith}
use Rattle.edge_expression.proofs.ScannedTexts.{scan_none, scan_deep, scan_on, scan_end, bad_at, is_scanned}
use Rattle.edge_expression.proofs.scan.scan.Goals as goal

pub returns-in-None : goal.returns-in-None
returns-in-None c =
    is_scanned c.args.text.now (bad_at c.loop-at.at)
    (sym (sym c.loop-at.invariant.same ∙ scan_none c.args.text.now c.loop-at.at c.loop-at.reached c.loop-at-test.true (sym c.step.ensures ∙ c.in-None.is)))

pub returns-then-next-gt-MOST_OPEN : goal.returns-then-next-gt-MOST_OPEN
returns-then-next-gt-MOST_OPEN c =
    is_scanned c.args.text.now _
    (sym (sym c.loop-at.invariant.same ∙ scan_deep c.args.text.now c.loop-at.at c.loop-at.reached c.in-Some.next c.loop-at-test.true
    (sym c.step.ensures ∙ c.in-Some.is) (omega arith)))

pub loop-at-preserved : goal.loop-at-preserved
loop-at-preserved c = record {
  same = sym (scan_on c.args.text.now c.loop-at.at c.loop-at.reached c.in-Some.next c.loop-at-test.true (sym c.step.ensures ∙ c.in-Some.is) (omega arith))
      ∙ c.loop-at.invariant.same;
  shallow = omega arith;
}

pub returns-then-may_end : goal.returns-then-may_end
returns-then-may_end c =
    is_scanned c.args.text.now _
    (sym (sym c.loop-at.invariant.same ∙ scan_end c.args.text.now c.loop-at.at c.loop-at.reached true c.loop-at-test.false
    (sym c.may_end.ensures ∙ c.if-may_end.true)))

pub returns-else-may_end : goal.returns-else-may_end
returns-else-may_end c =
    let e : c.loop-at.at ≡ length c.args.text.now = omega arith in
    is_scanned c.args.text.now _
    (sym (sym c.loop-at.invariant.same ∙ scan_end c.args.text.now c.loop-at.at c.loop-at.reached false c.loop-at-test.false
    (sym c.may_end.ensures ∙ c.if-may_end.false) ∙ ap bad_at e))
