use Rattle.std.proofs.Common.{◌≡◌, sym, ap, subst, ◌∙◌, ℕ, ◌+◌, ◌-◌, ◌*◌, ◌<◌, ◌≤◌, length, get_or, set, arith}
use Rattle.std.specs.List.{between}
use Rattle.std.proofs.lemmas.List.Edits.{length-between}
use borrow.Rule.Slice.PartMut.{put_mid}
use Rattle.case_model.specs.CaseView.{content}
use Rattle.trial_rows.specs.Rows.{IsRowTested, in_row}
use Rattle.trial_rows.proofs.RowFacts.{row_within, one_more_row}
use Rattle.trial_rows.proofs.rows.test_each.Goals as goal

pub loop-row-preserved : goal.loop-row-preserved
loop-row-preserved c =
    let k = content c.args.case.now in
    let m = length k.names in
    let s = c.size-size.result in
    let row = c.loop-row.row in
    let doubles = c.args.doubles.now in
    let marks = c.loop-row.rejected in
    let part = c.test_row-next.new.marks in
    let statuses = c.loop-row.statuses in
    let status = c.code.result in
    let e : s ≡ m = c.size-size.ensures.count in
    let doubles_are : length doubles ≡ length statuses * m = c.requires.rows.doubles_are ∙ ap (λ n. n * m) (sym c.loop-row.auto.statuses) in
    let marks_are : length marks ≡ length doubles = c.loop-row.auto.rejected ∙ c.requires.rows.marks_are in
    let within : row < length statuses = let t = c.loop-row-test.true in omega (arith, t, c.loop-row.auto.statuses) in
    let ends : row * s + s ≤ length doubles = row_within s row (length statuses) (length doubles) within (doubles_are ∙ ap (λ n. length statuses * n) (sym e)) in
    let long : length (between (row * s) (row * s + s) marks) ≡ row * s + s - row * s =
    length-between marks (row * s) (row * s + s) (omega (arith, ends, marks_are)) in
    let many : length part ≡ m = omega (arith, c.test_row-next.auto.marks, long, e) in
    let ended : IsRowTested k (λ j. get_or (between (row * s) (row * s + s) doubles) j 0) (λ j. get_or part j 0) status =
    subst (IsRowTested k (λ j. get_or (between (row * s) (row * s + s) doubles) j 0) (λ j. get_or part j 0)) (sym c.code.ensures) c.test_row-next.ensures.row in
    let here : IsRowTested k (λ j. get_or (between (row * m) (row * m + m) doubles) j 0) (λ j. get_or part j 0) status =
    subst (λ n. IsRowTested k (λ j. get_or (between (row * n) (row * n + n) doubles) j 0) (λ j. get_or part j 0) status) e ended in
    record {
      graph = c.test_row-next.ensures.graph;
      tested = subst (λ n. (i : ℕ) → i < row + 1 → IsRowTested k (in_row m doubles i) (in_row m (put_mid (row * n) (row * s + s - row * s) marks part) i)
          (get_or (set statuses row status) i 0)) (sym e)
          (one_more_row k doubles marks part statuses row status (row * s + s - row * s) within doubles_are marks_are many c.loop-row.invariant.tested here);
    }

pub returns : goal.returns
returns c = λ i h. c.loop-row.invariant.tested i (let f = c.loop-row-test.false in omega (arith, h, f, c.loop-row.auto.statuses))
