-- Names of the hypotheses of evidence.
use Rattle.std.proofs.Common.{◌≡◌, sym, ap, ap₂, subst, ◌∙◌, ℕ, List, ◌++◌, map, Result}
use Rattle.std.specs.Prelude.{OnOk}
use Rattle.fraction.specs.Plain.{fraction_parts}
use Rattle.eps_quotient.specs.View.{quotient_parts}
use Rattle.case_model.specs.Content.{Content}
use Rattle.evidence_check.specs.declared.evidence.Evidence.{Evidence}
use Rattle.evidence_check.specs.declared.evidence.Evidence.TheVariants.{Plain, Eps}
use Rattle.evidence_check.specs.declared.evidence.Steps.{Steps}
use Rattle.evidence_check.specs.EvidenceView.{hypotheses_of, version_of, steps_of, keeps_of}
use Rattle.evidence_check.proofs.Hypotheses.{same_hypotheses, same_kept}
use Rattle.report.specs.CheckReport.{listed_line, keeps_line}

-- the lines of the hypotheses of evidence
abbrev evidence_lines : Content → Evidence → List ℕ
evidence_lines case e = listed_line case (map (λ s. s.hypothesis) (steps_of e)) ++ keeps_line case (version_of e) (map (λ x. x.hypothesis) (keeps_of e))

abbrev stored_lines : {F : Type 0} → Content → Steps F → List ℕ
stored_lines case v = listed_line case (hypotheses_of v.steps) ++ keeps_line case v.version (map (λ x. x.hypothesis) v.keeps)

put_as : {A E : Type 0} (r : Result A E) (new old xs ys : List ℕ) → xs ≡ ys → OnOk r (new ≡ old ++ xs) → OnOk r (new ≡ old ++ ys)
put_as r new old xs ys e h = subst (λ t. OnOk r (new ≡ old ++ t)) e h

pub plain_put : {A E : Type 0} (r : Result A E) (new old : List ℕ) (case : Content) (v : Steps _) (e : Evidence) → e ≡ Plain v
    → OnOk r (new ≡ old ++ stored_lines case v) → OnOk r (new ≡ old ++ evidence_lines case e)
plain_put r new old case v e is h = put_as r new old _ _
    (ap₂ (λ js ks. listed_line case js ++ keeps_line case v.version ks) (same_hypotheses fraction_parts v.steps) (same_kept fraction_parts v.keeps)
    ∙ ap (evidence_lines case) (sym is)) h

pub eps_put : {A E : Type 0} (r : Result A E) (new old : List ℕ) (case : Content) (v : Steps _) (e : Evidence) → e ≡ Eps v
    → OnOk r (new ≡ old ++ stored_lines case v) → OnOk r (new ≡ old ++ evidence_lines case e)
eps_put r new old case v e is h = put_as r new old _ _
    (ap₂ (λ js ks. listed_line case js ++ keeps_line case v.version ks) (same_hypotheses quotient_parts v.steps) (same_kept quotient_parts v.keeps)
    ∙ ap (evidence_lines case) (sym is)) h
