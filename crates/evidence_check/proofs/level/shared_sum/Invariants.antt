use Rattle.std.proofs.Common.{◌≡◌, map, Ok}
use Rattle.field_core.specs.declared.place.Place.TheVariants.{Level}
use Rattle.fraction.specs.Plain.{plain, fraction_parts}
use Rattle.case_model.specs.CaseView.{content}
use Rattle.evidence_check.specs.EvidenceParts.{numbers_at}
use Rattle.evidence_check.specs.WrittenCheck.{added}
use Rattle.evidence_check.specs.CaseCheck.{share_in}
use Rattle.evidence_check.proofs.level.shared_sum.Given as goal

abbrev pub invariant-loop-c : goal.invariant-loop-c
invariant-loop-c l = added plain (λ c. c) (Level l.k) plain.zero (share_in (content l.case)) (numbers_at plain (map fraction_parts l.limits)) l.c ≡ Ok
    (fraction_parts l.sum)
