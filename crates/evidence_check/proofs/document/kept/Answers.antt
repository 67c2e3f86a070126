use Rattle.std.proofs.Common.{◌∙◌, sym, ap, [], map, Ok}
use Rattle.text_lines.specs.Kinds.{each_of}
use Rattle.text_lines.proofs.FormReads.{read_say}
use Rattle.case_model.specs.CaseView.{content}
use Rattle.evidence_check.specs.DocumentLines.{kinds}
use Rattle.evidence_check.specs.Document.{numbers, keep}
use Rattle.evidence_check.specs.EvidenceView.{hypotheses_of, keep_parts}
use Rattle.evidence_check.specs.NumberReading.{case_frame}
use Rattle.evidence_check.proofs.ReadAnswers.{reads}
use Rattle.field_core.specs.Answers.{told_as}
use Rattle.text_lines.specs.Forms.{words_seen}
use Rattle.evidence_check.specs.ReadView.{proof_fault}
use Rattle.evidence_check.proofs.ReadAnswers.{kept_none}
use Rattle.evidence_check.proofs.document.kept.Goals as goal

pub returns-else-version-eq2-clause-said : goal.returns-else-version-eq2-clause-said
returns-else-version-eq2-clause-said g c =
    let T = (case_frame g.F.CaseNumber.numbers (content c.args.case.now)) in
    let js = hypotheses_of c.args.steps.now in
    ap (told_as proof_fault) (ap (λ ks. reads (each_of (keep T js) ks) c.args.lines.now) (kept_none T c.args.version js c.if-version-eq2.false)
    ∙ read_say kinds [] (words_seen c.args.lines.now.rows) c.args.lines.now.end)
    ∙ ap (λ xs. Ok (map (keep_parts g.F.Number.parts) xs, words_seen c.args.lines.now.rows)) (sym c.new.ensures)
