-- `check` has at most one outcome on a case and a text.
use Rattle.std.proofs.Common.{ℕ, List}
use Rattle.answers.specs.Stages.{IsDecided}
use Rattle.answers.proofs.Decided.{stage_decided, then_decided, told_as_decided, only_decided}
use Rattle.case_model.specs.Content.{Content}
use Rattle.evidence_check.specs.DocumentStatements.{case_reading}
use Rattle.graph_cli.specs.Check.{Said, undefined_check, check_stage}

pub check_decided : (c : Content) (bytes : List ℕ) → IsDecided (check_stage c bytes)
unfolding check_stage
check_decided c bytes =
    then_decided _ _ (told_as_decided _ _ (stage_decided (case_reading c bytes)))
    (λ (said : Said). then_decided _ _ (told_as_decided (undefined_check said) _ (stage_decided _)) (λ verdict. only_decided _))
