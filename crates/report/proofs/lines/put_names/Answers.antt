use Rattle.std.proofs.Common.{◌≡◌, ap, ◌∙◌, ◌++◌, length, arith}
use Rattle.std.specs.List.{flat_map, range_with_len}
use Rattle.case_model.specs.CaseView.{content}
use Rattle.report.specs.TestReport.{name_if}
use Rattle.report.proofs.ListedLines.{put_more}
use Rattle.report.proofs.lines.put_names.Goals as goal

pub loop-j-preserved : goal.loop-j-preserved
loop-j-preserved g c = λ f says.
    let case = content c.args.case.now in
    let e = says c.loop-j.j c.test.result (omega arith) c.test.ensures in
    put_more (λ j. name_if case j (f j)) c.args.text.now c.loop-j.text c.put_name_if.new.text c.loop-j.j (c.loop-j.invariant f says)
    (c.in_ok-put_name_if.ensures ∙ ap (λ b. c.loop-j.text ++ name_if case c.loop-j.j b) e)

pub returns : goal.returns
returns g c = λ f says.
    let case = content c.args.case.now in
    let all : c.loop-j.j ≡ length case.names = omega arith in
    c.loop-j.invariant f says ∙ ap (λ n. c.args.text.now ++ flat_map (λ j. name_if case j (f j)) (range_with_len 0 n)) all
