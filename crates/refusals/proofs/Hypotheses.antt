-- The hypotheses of evidence, whatever its numbers.
use Rattle.std.proofs.Common.{◌≡◌, sym, ap, ◌∙◌, map}
use Rattle.fraction.specs.Plain.{fraction_parts}
use Rattle.eps_quotient.specs.View.{quotient_parts}
use Rattle.evidence_check.specs.declared.evidence.Evidence.{Evidence}
use Rattle.evidence_check.specs.declared.evidence.Evidence.TheVariants.{Plain, Eps}
use Rattle.evidence_check.specs.declared.evidence.Steps.{Steps}
use Rattle.evidence_check.specs.EvidenceView.{hypotheses_of, steps_of, keeps_of}
use Rattle.evidence_check.proofs.Hypotheses.{same_hypotheses, same_kept}

pub plain_listed : (v : Steps _) (e : Evidence) → e ≡ Plain v → hypotheses_of v.steps ≡ map (λ s. s.hypothesis) (steps_of e)
plain_listed v e h = same_hypotheses fraction_parts v.steps ∙ ap (λ e. map (λ s. s.hypothesis) (steps_of e)) (sym h)

pub eps_listed : (v : Steps _) (e : Evidence) → e ≡ Eps v → hypotheses_of v.steps ≡ map (λ s. s.hypothesis) (steps_of e)
eps_listed v e h = same_hypotheses quotient_parts v.steps ∙ ap (λ e. map (λ s. s.hypothesis) (steps_of e)) (sym h)

pub plain_kept : (v : Steps _) (e : Evidence) → e ≡ Plain v → map (λ x. x.hypothesis) v.keeps ≡ map (λ x. x.hypothesis) (keeps_of e)
plain_kept v e h = same_kept fraction_parts v.keeps ∙ ap (λ e. map (λ x. x.hypothesis) (keeps_of e)) (sym h)

pub eps_kept : (v : Steps _) (e : Evidence) → e ≡ Eps v → map (λ x. x.hypothesis) v.keeps ≡ map (λ x. x.hypothesis) (keeps_of e)
eps_kept v e h = same_kept quotient_parts v.keeps ∙ ap (λ e. map (λ x. x.hypothesis) (keeps_of e)) (sym h)
