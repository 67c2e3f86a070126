use Rattle.std.proofs.Common.{map}
use Rattle.text_lines.specs.Forms.{Line}
use Rattle.case_model.specs.CaseView.{content}
use Rattle.evidence_check.specs.DocumentLines.{keep_line}
use Rattle.evidence_check.specs.Document.{numbers}
use Rattle.evidence_check.specs.EvidenceView.{hypotheses_of}
use Rattle.evidence_check.specs.NumberReading.{case_frame}
use Rattle.evidence_check.proofs.ReadAnswers.{handed, then_fails}
use Rattle.evidence_check.proofs.ReadAnswers.{keep_read, keep_exits_fail}
use Rattle.evidence_check.proofs.document.keep.Goals as goal

pub returns-in_err-keep_line-clause-said : goal.returns-in_err-keep_line-clause-said
returns-in_err-keep_line-clause-said g c =
    let T = (case_frame g.F.CaseNumber.numbers (content c.args.case.now)) in
    handed _ c.from_residual.result c.in_err-keep_line.field-0.0 _ c.from_residual.ensures.1
    (then_fails (Line (keep_line T c.args.hypothesis)) _ c.args.lines.now c.in_err-keep_line.field-0.0 c.in_err-keep_line.ensures.said)

pub returns-in_err-exits-clause-said : goal.returns-in_err-exits-clause-said
returns-in_err-exits-clause-said g c =
    let T = (case_frame g.F.CaseNumber.numbers (content c.args.case.now)) in
    let js = hypotheses_of c.args.steps.now in
    handed _ c.from_residual-in_err-exits.result c.in_err-exits.field-0.0 _ c.from_residual-in_err-exits.ensures.1
    (keep_exits_fail T js c.args.hypothesis c.args.lines.now c.keep_line.new.lines c.in_ok-keep_line.ensures.said c.keep_line.ensures.end c.in_err-exits.field-0.0 c.in_err-exits.ensures.said)

pub returns-clause-said : goal.returns-clause-said
returns-clause-said g c =
    let T = (case_frame g.F.CaseNumber.numbers (content c.args.case.now)) in
    let js = hypotheses_of c.args.steps.now in
    keep_read T js c.args.hypothesis c.args.lines.now c.keep_line.new.lines c.in_ok-keep_line.ensures.said c.keep_line.ensures.end c.lists.new.lines
    (map (map g.F.Number.parts) c.in_ok-exits.exits) c.in_ok-exits.ensures.said c.lists.ensures.end
