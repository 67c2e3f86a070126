use Rattle.std.proofs.Common.{◌∙◌, ◌<◌, refl, sym, ap, subst, [], ◌∷◌, map, length}
use Rattle.std.specs.List.{All}
use Rattle.std.proofs.lemmas.List.{map-append}
use Rattle.std.proofs.lemmas.List.Elements.{All-push}
use Rattle.text_lines.specs.Forms.{Many}
use Rattle.text_lines.specs.Kinds.{maybe}
use Rattle.case_model.specs.CaseView.{content}
use Rattle.evidence_check.specs.DocumentLines.{step_line}
use Rattle.evidence_check.specs.Document.{numbers, step}
use Rattle.evidence_check.specs.EvidenceView.{hypotheses_of, step_parts}
use Rattle.evidence_check.specs.NumberReading.{case_frame}
use Rattle.evidence_check.proofs.ReadAnswers.{Fails, Gives, handed, reads}
use Rattle.evidence_check.proofs.ReadAnswers.{first_fails, items_end, item_fails, item_reads}
use Rattle.std.specs.Prelude.{IfSome}
use Rattle.evidence_check.proofs.document.steps.Goals as goal

pub returns-in_err-hypothesis-clause-said : goal.returns-in_err-hypothesis-clause-said
returns-in_err-hypothesis-clause-said g c =
    let T = case_frame g.F.CaseNumber.numbers (content c.args.case.now) in
    let ss = map (step_parts g.F.Number.parts) c.loop-steps.steps in
    handed _ c.from_residual.result c.in_err-hypothesis.field-0.0 _ c.from_residual.ensures.1
    (first_fails (step_line T) (step T) ss c.loop-steps.lines _ c.loop-steps.invariant.so_far c.in_err-hypothesis.field-0.0
    (c.in_err-hypothesis.ensures.said T (λ name. refl)))

pub returns-in_err-step-clause-said : goal.returns-in_err-step-clause-said
returns-in_err-step-clause-said g c =
    let T = case_frame g.F.CaseNumber.numbers (content c.args.case.now) in
    let ss = map (step_parts g.F.Number.parts) c.loop-steps.steps in
    let found = subst (λ o. Gives (maybe (step_line T)) c.loop-steps.lines o c.next_step.new.lines) c.in-Some.is (c.in_ok-hypothesis.ensures.said T (λ name. refl)) in
    handed _ c.from_residual-in_err-step.result c.in_err-step.field-0.0 _ c.from_residual-in_err-step.ensures.1
    (item_fails (step_line T) (step T) ss c.loop-steps.lines _ c.loop-steps.invariant.so_far c.in-Some.hypothesis c.next_step.new.lines found c.next_step.ensures.end
    c.in_err-step.field-0.0
    (subst (λ es. Fails (reads (step T (map (step_parts g.F.Number.parts) es) c.in-Some.hypothesis) c.next_step.new.lines) c.in_err-step.field-0.0) c.as_slice.ensures
    c.in_err-step.ensures.said))

pub loop-steps-preserved : goal.loop-steps-preserved
loop-steps-preserved g c =
    let T = case_frame g.F.CaseNumber.numbers (content c.args.case.now) in
    let ss = map (step_parts g.F.Number.parts) c.loop-steps.steps in
    let found = subst (λ o. Gives (maybe (step_line T)) c.loop-steps.lines o c.next_step.new.lines) c.in-Some.is (c.in_ok-hypothesis.ensures.said T (λ name. refl)) in
    let s = c.in_ok-step.field-0 in
    let below : c.in-Some.hypothesis < length (content c.args.case.now).names =
    subst (λ o. IfSome o (λ j. j < length (content c.args.case.now).names)) c.in-Some.is c.in_ok-hypothesis.ensures.known in
    record {
      end = c.step.ensures.end ∙ c.next_step.ensures.end ∙ c.loop-steps.invariant.end;
      known = subst (All (λ j. j < length (content c.args.case.now).names))
          (sym (ap hypotheses_of c.in_ok-push.ensures.pushed ∙ map-append (λ s. s.hypothesis) c.loop-steps.steps (s ∷ [])))
          (All-push (λ j. j < length (content c.args.case.now).names) (hypotheses_of c.loop-steps.steps) s.hypothesis c.loop-steps.invariant.known
          (subst (λ j. j < length (content c.args.case.now).names) (sym c.in_ok-step.ensures.hypothesis) below));
      so_far = item_reads (step_line T) (step T) ss c.loop-steps.lines _ c.loop-steps.invariant.so_far c.in-Some.hypothesis c.next_step.new.lines found
          c.next_step.ensures.end (step_parts g.F.Number.parts s) c.step.new.lines
          (subst (λ es. Gives (step T (map (step_parts g.F.Number.parts) es) c.in-Some.hypothesis) c.next_step.new.lines (step_parts g.F.Number.parts s) c.step.new.lines)
          c.as_slice.ensures c.in_ok-step.ensures.said) c.step.ensures.end
          ∙ ap (λ xs. reads (Many (step_line T) (step T) xs) c.step.new.lines)
          (sym (ap (map (step_parts g.F.Number.parts)) c.in_ok-push.ensures.pushed ∙ map-append (step_parts g.F.Number.parts) c.loop-steps.steps (s ∷ [])));
    }

pub returns-clause-said : goal.returns-clause-said
returns-clause-said g c =
    let T = case_frame g.F.CaseNumber.numbers (content c.args.case.now) in
    let ss = map (step_parts g.F.Number.parts) c.loop-steps.steps in
    items_end (step_line T) (step T) ss c.loop-steps.lines _ c.loop-steps.invariant.so_far c.next_step.new.lines
    (subst (λ o. Gives (maybe (step_line T)) c.loop-steps.lines o c.next_step.new.lines) c.in_default.is (c.in_ok-hypothesis.ensures.said T (λ name. refl)))
