use Rattle.std.proofs.Common.{◌<◌, ◌∙◌, ◌++◌, sym, ap, ap₂, subst, [], map, length}
use Rattle.std.specs.List.{All}
use Rattle.case_model.specs.CaseView.{content}
use Rattle.evidence_check.specs.EvidenceView.{hypotheses_of, step_parts, keep_parts}
use Rattle.evidence_check.specs.EvidenceLines.{step_lines, keep_lines}
use Rattle.evidence_check.proofs.Hypotheses.{same_hypotheses}
use Rattle.text_lines.specs.Spelling.{text_of}
use Rattle.evidence_check.specs.NumberReading.{case_frame}
use Rattle.evidence.proofs.WriterAnswers.{all_known, whole_text}
use Rattle.evidence.proofs.writer.written.Goals as goal

pub put_steps-requires-clause-known : goal.put_steps-requires-clause-known
put_steps-requires-clause-known g c =
    let m = length (content c.args.case.now).names in
    all_known g.F.Number.parts m c.as_slice-steps.result.now
    (subst (λ ss. All (λ s. s.hypothesis < m) (map (step_parts g.F.Number.parts) ss)) (sym c.as_slice-steps.ensures) c.requires.size.steps_below)

pub put_keeps-requires-clause-known : goal.put_keeps-requires-clause-known
put_keeps-requires-clause-known g c =
    let m = length (content c.args.case.now).names in
    all_known g.F.Number.parts m c.as_slice-steps.result.now
    (subst (λ ss. All (λ s. s.hypothesis < m) (map (step_parts g.F.Number.parts) ss)) (sym c.as_slice-steps.ensures) c.requires.size.steps_below)

pub returns : goal.returns
returns g c =
    let parts = g.F.Number.parts in
    let n = g.F.CaseNumber.numbers in
    let k = content c.args.case.now in
    let v = c.args.proof.now in
    let ss = map (step_parts parts) v.steps in
    let xs = map (keep_parts parts) v.keeps in
    whole_text (case_frame n k) v.version ss xs c.new-text.result c.put_version.new.text c.put_steps.new.text c.put_keeps.new.text c.append.new.self c.new-text.ensures
    c.in_ok-put_version.ensures
    (c.in_ok-put_steps.ensures ∙ ap (λ ys. c.put_version.new.text ++ text_of (step_lines (case_frame n k) [] (map (step_parts parts) ys))) c.as_slice-steps.ensures)
    (c.in_ok-put_keeps.ensures ∙ ap₂ (λ ys zs. c.put_steps.new.text ++ text_of (keep_lines (case_frame n k) (hypotheses_of ys) (map (keep_parts parts) zs)))
    c.as_slice-steps.ensures c.as_slice.ensures
    ∙ ap (λ js. c.put_steps.new.text ++ text_of (keep_lines (case_frame n k) js xs)) (same_hypotheses parts v.steps))
    c.in_ok-append.ensures.appended
