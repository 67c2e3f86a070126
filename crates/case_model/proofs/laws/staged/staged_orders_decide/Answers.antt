use Rattle.case_model.specs.StagedTest.{AtStages}
use Rattle.case_model.proofs.LocalTests.{legal_rejected_by, rejected_listed_by}
use Rattle.case_model.proofs.StagedTests.{staged_monotone, staged_more}
use Rattle.case_model.proofs.laws.staged.staged_orders_decide.Goals as goal

pub returns-clause-weights : goal.returns-clause-weights
returns-clause-weights c = λ spend alpha values r. staged_monotone spend alpha r.0 r.1 values

pub returns-clause-arrivals : goal.returns-clause-arrivals
returns-clause-arrivals c = λ spend alpha old new E I k more
    h. record { member = h.member; weight = h.weight; is_weight = h.is_weight; passes = staged_more spend alpha old new more k h.weight h.passes }

pub returns-clause-decide : goal.returns-clause-decide
returns-clause-decide c = λ spend alpha values E js j r V o.
    let sound = legal_rejected_by E (AtStages spend alpha values) V (staged_monotone spend alpha r.0 r.1 values) js o j in
    (sound, λ done. (sound, rejected_listed_by E (AtStages spend alpha values) js done j))
