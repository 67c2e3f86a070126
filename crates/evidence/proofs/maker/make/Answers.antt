use Rattle.std.proofs.Common.{◌∙◌, sym, ap, subst}
use Rattle.case_model.specs.CaseView.{content}
use Rattle.sequential.specs.Decisions.{hypotheses}
use Rattle.evidence.specs.CaseFlows.{IsCompleteOrder, case_flows}
use Rattle.evidence.specs.Made.{MakesAll, written_evidence}
use Rattle.evidence.proofs.MakeAnswers.{made_lists, made_keeps, made_meets, made_fits}
use Rattle.evidence.proofs.maker.make.Goals as goal

pub evidence_along-requires : goal.evidence_along-requires
evidence_along-requires c = subst (IsCompleteOrder (content c.args.case.now))
    (sym (c.as_slice-2.ensures ∙ c.in_ok-hypotheses.ensures ∙ ap hypotheses c.as_slice.ensures)) c.requires.order

pub returns-clause-made : goal.returns-clause-made
returns-clause-made c =
    subst (λ js. MakesAll written_evidence c.evidence_along.result (case_flows (content c.args.case.now) js))
    (c.as_slice-2.ensures ∙ c.in_ok-hypotheses.ensures ∙ ap hypotheses c.as_slice.ensures) c.evidence_along.ensures.made

pub returns-clause-lists : goal.returns-clause-lists
returns-clause-lists c =
    let m = subst (λ js. MakesAll written_evidence c.evidence_along.result (case_flows (content c.args.case.now) js))
    (c.as_slice-2.ensures ∙ c.in_ok-hypotheses.ensures ∙ ap hypotheses c.as_slice.ensures) c.evidence_along.ensures.made in
    made_lists (content c.args.case.now) c.args.case.now.valid (hypotheses c.args.decision.now.steps) c.requires.order c.evidence_along.result m

pub returns-clause-keeps : goal.returns-clause-keeps
returns-clause-keeps c =
    let m = subst (λ js. MakesAll written_evidence c.evidence_along.result (case_flows (content c.args.case.now) js))
    (c.as_slice-2.ensures ∙ c.in_ok-hypotheses.ensures ∙ ap hypotheses c.as_slice.ensures) c.evidence_along.ensures.made in
    made_keeps (content c.args.case.now) c.args.case.now.valid (hypotheses c.args.decision.now.steps) c.requires.order c.evidence_along.result m

pub returns-clause-meets : goal.returns-clause-meets
returns-clause-meets c =
    let m = subst (λ js. MakesAll written_evidence c.evidence_along.result (case_flows (content c.args.case.now) js))
    (c.as_slice-2.ensures ∙ c.in_ok-hypotheses.ensures ∙ ap hypotheses c.as_slice.ensures) c.evidence_along.ensures.made in
    made_meets (content c.args.case.now) c.args.case.now.valid (hypotheses c.args.decision.now.steps) c.requires.order c.evidence_along.result m

pub returns-clause-fits : goal.returns-clause-fits
returns-clause-fits c =
    let m = subst (λ js. MakesAll written_evidence c.evidence_along.result (case_flows (content c.args.case.now) js))
    (c.as_slice-2.ensures ∙ c.in_ok-hypotheses.ensures ∙ ap hypotheses c.as_slice.ensures) c.evidence_along.ensures.made in
    made_fits (content c.args.case.now) c.args.case.now.valid
    (hypotheses c.args.decision.now.steps) c.requires.order c.evidence_along.result m c.evidence_along.ensures.form c.evidence_along.ensures.version
