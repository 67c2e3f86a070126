use Rattle.std.proofs.Common.{◌∙◌, ap, subst, map}
use Rattle.text_lines.specs.Kinds.{each_of}
use Rattle.case_model.specs.CaseView.{content}
use Rattle.evidence_check.specs.Document.{keep, kept}
use Rattle.evidence_check.specs.EvidenceView.{hypotheses_of, step_parts, keep_parts}
use Rattle.evidence_check.specs.NumberReading.{case_frame}
use Rattle.evidence_check.proofs.Hypotheses.{same_hypotheses}
use Rattle.evidence_check.proofs.ReadAnswers.{Fails, Gives, handed, reads}
use Rattle.evidence_check.proofs.ReadWhole.{no_version, no_steps, no_keeps, no_end, all_lines, text_fails, more_fails, text_read}
use Rattle.evidence_check.proofs.reader.read_in.Goals as goal

pub returns-in_err-version : goal.returns-in_err-version
returns-in_err-version g c =
    let T = (case_frame g.F.CaseNumber.numbers (content c.args.case.now)) in
    let start = c.new-lines.result in
    handed _ c.from_residual.result c.in_err-version.field-0.0 _ c.from_residual.ensures.1
    (text_fails T c.args.bytes.now start c.new-lines.ensures.rows c.new-lines.ensures.end c.in_err-version.field-0.0
    (no_version T start c.in_err-version.field-0.0 c.in_err-version.ensures.said))

pub returns-in_err-steps : goal.returns-in_err-steps
returns-in_err-steps g c =
    let T = (case_frame g.F.CaseNumber.numbers (content c.args.case.now)) in
    let start = c.new-lines.result in
    handed _ c.from_residual-in_err-steps.result c.in_err-steps.field-0.0 _ c.from_residual-in_err-steps.ensures.1
    (text_fails T c.args.bytes.now start c.new-lines.ensures.rows c.new-lines.ensures.end c.in_err-steps.field-0.0
    (no_steps T start c.in_ok-version.version c.version.new.lines c.in_ok-version.ensures.said c.version.ensures.end c.in_err-steps.field-0.0 c.in_err-steps.ensures.said))

pub returns-in_err-keeps : goal.returns-in_err-keeps
returns-in_err-keeps g c =
    let T = (case_frame g.F.CaseNumber.numbers (content c.args.case.now)) in
    let start = c.new-lines.result in
    let ss = map (step_parts g.F.Number.parts) c.in_ok-steps.steps in
    let js = ap hypotheses_of c.as_slice.ensures ∙ same_hypotheses g.F.Number.parts c.in_ok-steps.steps in
    handed _ c.from_residual-in_err-keeps.result c.in_err-keeps.field-0.0 _ c.from_residual-in_err-keeps.ensures.1
    (text_fails T c.args.bytes.now start c.new-lines.ensures.rows c.new-lines.ensures.end c.in_err-keeps.field-0.0
    (no_keeps T start c.in_ok-version.version c.version.new.lines c.in_ok-version.ensures.said c.version.ensures.end ss c.steps.new.lines c.in_ok-steps.ensures.said c.steps.ensures.end c.in_err-keeps.field-0.0
    (subst (λ hs. Fails (reads (each_of (keep T hs) (kept T c.in_ok-version.version hs)) c.steps.new.lines) c.in_err-keeps.field-0.0) js c.in_err-keeps.ensures.said)))

pub returns-in_err-end : goal.returns-in_err-end
returns-in_err-end g c =
    let T = (case_frame g.F.CaseNumber.numbers (content c.args.case.now)) in
    let start = c.new-lines.result in
    let ss = map (step_parts g.F.Number.parts) c.in_ok-steps.steps in
    let js = ap hypotheses_of c.as_slice.ensures ∙ same_hypotheses g.F.Number.parts c.in_ok-steps.steps in
    let xs = map (keep_parts g.F.Number.parts) c.in_ok-keeps.keeps in
    let third = subst (λ hs. Gives (each_of (keep T hs) (kept T c.in_ok-version.version hs)) c.steps.new.lines xs c.kept.new.lines) js c.in_ok-keeps.ensures.said in
    handed _ c.from_residual-in_err-end.result c.in_err-end.field-0.0 _ c.from_residual-in_err-end.ensures.1
    (text_fails T c.args.bytes.now start c.new-lines.ensures.rows c.new-lines.ensures.end c.in_err-end.field-0.0
    (no_end T start c.in_ok-version.version c.version.new.lines c.in_ok-version.ensures.said c.version.ensures.end
    ss c.steps.new.lines c.in_ok-steps.ensures.said c.steps.ensures.end xs c.kept.new.lines third c.kept.ensures.end
    c.in_err-end.field-0.0 c.in_err-end.ensures.said))

pub returns-in_err-nothing_after : goal.returns-in_err-nothing_after
returns-in_err-nothing_after g c =
    let T = (case_frame g.F.CaseNumber.numbers (content c.args.case.now)) in
    let start = c.new-lines.result in
    let ss = map (step_parts g.F.Number.parts) c.in_ok-steps.steps in
    let js = ap hypotheses_of c.as_slice.ensures ∙ same_hypotheses g.F.Number.parts c.in_ok-steps.steps in
    let xs = map (keep_parts g.F.Number.parts) c.in_ok-keeps.keeps in
    let third = subst (λ hs. Gives (each_of (keep T hs) (kept T c.in_ok-version.version hs)) c.steps.new.lines xs c.kept.new.lines) js c.in_ok-keeps.ensures.said in
    let all = all_lines T start c.in_ok-version.version c.version.new.lines c.in_ok-version.ensures.said c.version.ensures.end
    ss c.steps.new.lines c.in_ok-steps.ensures.said c.steps.ensures.end xs c.kept.new.lines third c.kept.ensures.end
    c.end.new.lines c.in_ok-end.ensures.said c.end.ensures.end in
    handed _ c.from_residual-in_err-nothing_after.result c.in_err-nothing_after.field-0.0 _ c.from_residual-in_err-nothing_after.ensures.1
    (more_fails T c.args.bytes.now start c.new-lines.ensures.rows c.new-lines.ensures.end (record { version = c.in_ok-version.version; steps = ss; keeps = xs })
    c.end.new.lines.rows all c.in_err-nothing_after.field-0.0 c.in_err-nothing_after.ensures)

pub returns : goal.returns
returns g c =
    let T = (case_frame g.F.CaseNumber.numbers (content c.args.case.now)) in
    let start = c.new-lines.result in
    let ss = map (step_parts g.F.Number.parts) c.in_ok-steps.steps in
    let js = ap hypotheses_of c.as_slice.ensures ∙ same_hypotheses g.F.Number.parts c.in_ok-steps.steps in
    let xs = map (keep_parts g.F.Number.parts) c.in_ok-keeps.keeps in
    let third = subst (λ hs. Gives (each_of (keep T hs) (kept T c.in_ok-version.version hs)) c.steps.new.lines xs c.kept.new.lines) js c.in_ok-keeps.ensures.said in
    let all = all_lines T start c.in_ok-version.version c.version.new.lines c.in_ok-version.ensures.said c.version.ensures.end
    ss c.steps.new.lines c.in_ok-steps.ensures.said c.steps.ensures.end xs c.kept.new.lines third c.kept.ensures.end
    c.end.new.lines c.in_ok-end.ensures.said c.end.ensures.end in
    text_read T c.args.bytes.now start c.new-lines.ensures.rows c.new-lines.ensures.end (record { version = c.in_ok-version.version; steps = ss; keeps = xs })
    c.end.new.lines.rows all c.in_ok-nothing_after.ensures
