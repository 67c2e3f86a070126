use Rattle.std.proofs.Common.{sym, ◌∙◌}
use Rattle.case_model.specs.Sums.{number_at}
use Rattle.fraction.specs.View.{number_of}
use Rattle.case_numbers.specs.Numbers.{numbers_of, kind_of}
use Rattle.case_numbers.proofs.Components.{can_run}
use Rattle.evidence_check.specs.CaseCheck.{p_values_of}
use Rattle.evidence_check.proofs.CaseChecked.{case_fair, listed_names}
use Rattle.evidence.specs.CaseFlows.{case_flows}
use Rattle.evidence.proofs.CaseEvidence.{flows_list, flows_meet, flows_stored}
use Rattle.evidence.proofs.laws.case_flows_are_evidence.Goals as goal

pub returns-clause-meets : goal.returns-clause-meets
unfolding case_flows
returns-clause-meets c = λ k js v V o h.
    (flows_meet k V (number_at (p_values_of k.inputs)) (number_of k.alpha) js o.legal (numbers_of k) (can_run k) o.complete v h).0

pub returns-clause-lists : goal.returns-clause-lists
unfolding case_flows
returns-clause-lists c = λ k js v V o h. sym (listed_names (kind_of (numbers_of k)) v.steps)
    ∙ flows_list k V (number_at (p_values_of k.inputs)) (number_of k.alpha) js o.legal (numbers_of k) (can_run k) v h

pub returns-clause-keeps : goal.returns-clause-keeps
unfolding case_flows
returns-clause-keeps c = λ k js v V o h.
    (flows_meet k V (number_at (p_values_of k.inputs)) (number_of k.alpha) js o.legal (numbers_of k) (can_run k) o.complete v h).1

pub returns-clause-stored : goal.returns-clause-stored
unfolding case_flows
returns-clause-stored c = λ k js v V o h.
    flows_stored k V (number_at (p_values_of k.inputs)) (number_of k.alpha) js o.legal (numbers_of k) (can_run k) v h

pub returns-clause-accepted : goal.returns-clause-accepted
unfolding case_flows
returns-clause-accepted c = λ k js v n reason V o h e.
    case_fair k V v.steps v.keeps
    (flows_stored k V (number_at (p_values_of k.inputs)) (number_of k.alpha) js o.legal (numbers_of k) (can_run k) v h) n reason e
    ((flows_meet k V (number_at (p_values_of k.inputs)) (number_of k.alpha) js o.legal (numbers_of k) (can_run k) o.complete v h).0)
