use Rattle.std.proofs.Common.{◌∙◌, ◌++◌, ap, map}
use Rattle.std.proofs.lemmas.Result.{on_ok_weaker}
use Rattle.case_model.specs.CaseView.{content}
use Rattle.evidence_check.specs.declared.quantity.Quantity.TheVariants.{Exit}
use Rattle.evidence_check.specs.EvidenceView.{hypotheses_of}
use Rattle.evidence_check.specs.DocumentLines.{keep_words}
use Rattle.evidence_check.specs.EvidenceLines.{list_lines}
use Rattle.text_lines.specs.Spelling.{text_of}
use Rattle.evidence_check.specs.NumberReading.{case_frame}
use Rattle.evidence.proofs.WriterAnswers.{line_and}
use Rattle.evidence.proofs.writer.put_keep.Goals as goal

pub returns : goal.returns
returns g c =
    let parts = g.F.Number.parts in
    let n = g.F.CaseNumber.numbers in
    let k = content c.args.case.now in
    let js = hypotheses_of c.args.steps.now in
    let x = c.args.keep.now in
    on_ok_weaker c.put_lists.result
    (λ e. line_and (case_frame n k) (keep_words (case_frame n k) x.hypothesis) (list_lines (case_frame n k) Exit 0 js (map (map parts) x.exits)) c.args.text.now c.put_kept.new.text c.put_lists.new.text
    c.in_ok-put_kept.ensures
    (e ∙ ap (λ xs. c.put_kept.new.text ++ text_of (list_lines (case_frame n k) Exit 0 js (map (map parts) xs))) c.as_slice.ensures)) c.put_lists.ensures
