use Rattle.std.proofs.Common.{◌≡◌, ◌∙◌, sym, subst, Err, rules}
use Rattle.case_model.specs.CaseView.{content}
use Rattle.entangled.specs.CaseNetView.{is_of_fractions}
use Rattle.evidence_check.specs.EvidenceView.{IsFormOf}
use Rattle.evidence.specs.CaseFlows.{has_fractions}
use Rattle.evidence.specs.Made.{MakesAll, written_evidence}
use Rattle.sequential.specs.OpeningFault.{fault_at}
use Rattle.evidence.proofs.MakeAnswers.{opening_refused, flows_by, nets_opened, nets_order, form_is, if_ok}
use Rattle.evidence.proofs.maker.evidence_along.Goals as goal

pub evidence_of-requires-clause-opened : goal.evidence_of-requires-clause-opened
evidence_of-requires-clause-opened c = nets_opened (content c.args.case.now) c.args.case.now.valid _ c.in_ok-nets.ensures.opened

pub evidence_of-requires-clause-order : goal.evidence_of-requires-clause-order
evidence_of-requires-clause-order c = nets_order (content c.args.case.now) c.args.case.now.valid _ c.in_ok-nets.ensures.opened c.args.hypotheses.now c.requires

pub returns-in_err-nets-clause-made : goal.returns-in_err-nets-clause-made
returns-in_err-nets-clause-made c =
    let e : c.from_residual.result ≡ Err (fault_at 0 c.in_err-nets.field-0.0) = search rules in
    rw e (opening_refused (content c.args.case.now) c.args.hypotheses.now c.in_err-nets.field-0.0 c.in_err-nets.ensures.opened)

pub returns-clause-made : goal.returns-clause-made
returns-clause-made c = subst (λ w. MakesAll written_evidence c.evidence_of.result w)
    (sym (flows_by (content c.args.case.now) c.args.hypotheses.now _ c.in_ok-nets.ensures.opened)) c.evidence_of.ensures.made

pub returns-clause-form : goal.returns-clause-form
returns-clause-form c =
    if_ok (λ v. has_fractions v ≡ is_of_fractions c.in_ok-nets.nets) (IsFormOf (content c.args.case.now))
    (λ v e. form_is (content c.args.case.now) v (e ∙ c.in_ok-nets.ensures.plain)) c.evidence_of.result c.evidence_of.ensures.form
