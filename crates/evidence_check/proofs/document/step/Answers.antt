use Rattle.std.proofs.Common.{subst, map}
use Rattle.text_lines.specs.Forms.{Say}
use Rattle.case_model.specs.CaseView.{content}
use Rattle.evidence_check.specs.declared.quantity.Quantity.TheVariants.{Flow}
use Rattle.evidence_check.specs.Document.{numbers, named}
use Rattle.evidence_check.specs.EvidenceView.{hypotheses_of, step_parts}
use Rattle.evidence_check.specs.NumberReading.{case_frame}
use Rattle.evidence_check.proofs.Hypotheses.{same_hypotheses}
use Rattle.evidence_check.proofs.ReadAnswers.{Fails, Gives, handed, reads, then_fails}
use Rattle.evidence_check.proofs.ReadAnswers.{gives_left}
use Rattle.evidence_check.proofs.ReadAnswers.{step_read}
use Rattle.evidence_check.proofs.document.step.Goals as goal

pub returns-in_err-flows-clause-said : goal.returns-in_err-flows-clause-said
returns-in_err-flows-clause-said g c =
    let T = (case_frame g.F.CaseNumber.numbers (content c.args.case.now)) in
    let js = same_hypotheses g.F.Number.parts c.args.earlier.now in
    handed _ c.from_residual.result c.in_err-flows.field-0.0 _ c.from_residual.ensures.1
    (then_fails (numbers T Flow (named (map (step_parts g.F.Number.parts) c.args.earlier.now))) (λ flows. Say (record { hypothesis = c.args.hypothesis; flows = flows })) c.args.lines.now
    c.in_err-flows.field-0.0 (subst (λ hs. Fails (reads (numbers T Flow hs) c.args.lines.now) c.in_err-flows.field-0.0) js c.in_err-flows.ensures.said))

pub returns-clause-said : goal.returns-clause-said
returns-clause-said g c =
    let T = (case_frame g.F.CaseNumber.numbers (content c.args.case.now)) in
    let js = same_hypotheses g.F.Number.parts c.args.earlier.now in
    step_read T (map (step_parts g.F.Number.parts) c.args.earlier.now) c.args.hypothesis c.args.lines.now c.lists.new.lines (map (map g.F.Number.parts) c.in_ok-flows.flows)
    (subst (λ hs. Gives (numbers T Flow hs) c.args.lines.now (map (map g.F.Number.parts) c.in_ok-flows.flows) c.lists.new.lines) js c.in_ok-flows.ensures.said) c.lists.ensures.end

pub returns-clause-left : goal.returns-clause-left
returns-clause-left g c =
    let T = (case_frame g.F.CaseNumber.numbers (content c.args.case.now)) in
    gives_left (numbers T Flow (hypotheses_of c.args.earlier.now)) c.args.lines.now c.lists.new.lines (map (map g.F.Number.parts) c.in_ok-flows.flows) c.in_ok-flows.ensures.said
