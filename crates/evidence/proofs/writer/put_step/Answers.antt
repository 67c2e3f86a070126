use Rattle.std.proofs.Common.{◌∙◌, ◌++◌, ap, map}
use Rattle.std.proofs.lemmas.Result.{on_ok_weaker}
use Rattle.case_model.specs.CaseView.{content}
use Rattle.evidence_check.specs.declared.quantity.Quantity.TheVariants.{Flow}
use Rattle.evidence_check.specs.EvidenceView.{hypotheses_of}
use Rattle.evidence_check.specs.DocumentLines.{step_words}
use Rattle.evidence_check.specs.EvidenceLines.{list_lines}
use Rattle.text_lines.specs.Spelling.{text_of}
use Rattle.evidence_check.specs.NumberReading.{case_frame}
use Rattle.evidence.proofs.WriterAnswers.{line_and}
use Rattle.evidence.proofs.writer.put_step.Goals as goal

pub returns : goal.returns
returns g c =
    let parts = g.F.Number.parts in
    let n = g.F.CaseNumber.numbers in
    let k = content c.args.case.now in
    let js = hypotheses_of c.args.earlier.now in
    let s = c.args.step.now in
    on_ok_weaker c.put_lists.result
    (λ e. line_and (case_frame n k) (step_words (case_frame n k) s.hypothesis) (list_lines (case_frame n k) Flow 0 js (map (map parts) s.flows)) c.args.text.now c.put_rejected.new.text
    c.put_lists.new.text c.in_ok-put_rejected.ensures
    (e ∙ ap (λ xs. c.put_rejected.new.text ++ text_of (list_lines (case_frame n k) Flow 0 js (map (map parts) xs))) c.as_slice.ensures)) c.put_lists.ensures
