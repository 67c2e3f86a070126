use Rattle.std.proofs.Common.{◌↔◌, sym, subst}
use Rattle.case_model.specs.LegalOrder.{IsListed}
use Rattle.case_model.specs.StagedCase.{IsStagedRejectedIn}
use Rattle.staged_levels.specs.Studies.{positions_of}
use Rattle.staged_levels.specs.StudyView.{study}
use Rattle.study_register.specs.Looking.{arrivals_of}
use Rattle.study_register.proofs.TakenLooks.{taken_looks_decide}
use Rattle.study_register.proofs.register.Register.settled.Goals as goal

pub returns-clause-decides : goal.returns-clause-decides
returns-clause-decides c = λ k looks j V T.
    subst (λ rs. IsListed (positions_of rs) j ↔ IsStagedRejectedIn k (arrivals_of looks) j) (sym c.settled.ensures.value)
    (taken_looks_decide k looks (study c.args.self.now.study).looks j V T)
