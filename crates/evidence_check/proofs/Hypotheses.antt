-- The hypotheses of steps and keeps.
use Rattle.std.proofs.Common.{◌≡◌, sym, subst, ◌∙◌, ℕ, suc, ◌<◌, List, [], ◌∷◌, ◌++◌, length, map, get_or, add-one}
use Rattle.std.proofs.lemmas.List.{length-map, length_push, get_or-map}
use Rattle.std.proofs.lemmas.Simd.{map-map}
use Rattle.field_core.specs.Kind.{Parts}
use Rattle.field_core.specs.Sets.{whole}
use Rattle.field_core.specs.Runs.{IsOrder}
use Rattle.evidence_check.specs.Evidence.{at_place}
use Rattle.evidence_check.specs.EvidenceView.{hypotheses_of, step_parts, keep_parts}
use Rattle.evidence_check.specs.declared.evidence.ProofStep.{ProofStep}
use Rattle.evidence_check.specs.declared.evidence.KeepProof.{KeepProof}
use Rattle.evidence_check.proofs.Places.{place_below}

module _ {F : Type 0} (steps : List (ProofStep F)) (e : ℕ) (s : ProofStep F) (p : e < length steps) where
  pub at_step : at_place (hypotheses_of steps) e ≡ (get_or steps e s).hypothesis
  unfolding at_place
  at_step = get_or-map (λ s. s.hypothesis) steps e s 0 p

  pub step_below : (m : ℕ) → IsOrder m whole (hypotheses_of steps) → (get_or steps e s).hypothesis < m
  step_below m o = subst (λ j. j < m) at_step
      (place_below m (hypotheses_of steps) whole o e (subst (λ n. e < n) (sym (length-map steps (λ s. s.hypothesis))) p))

pub as_many : {F : Type 0} (steps : List (ProofStep F)) → length steps ≡ length (hypotheses_of steps)
as_many steps = sym (length-map steps (λ s. s.hypothesis))

-- one hypothesis more
pub one_longer : {A : Type 0} (xs : List A) (x : A) → length (xs ++ x ∷ []) ≡ suc (length xs)
one_longer xs x = length_push xs x ∙ add-one (length xs)

-- the hypotheses are the same, whatever the numbers
pub same_hypotheses : {F : Type 0} (parts : F → Parts) (steps : List (ProofStep F))
    → hypotheses_of steps ≡ map (λ s. s.hypothesis) (map (step_parts parts) steps)
same_hypotheses parts steps = sym (map-map (λ s. s.hypothesis) (step_parts parts) steps)

pub same_kept : {F : Type 0} (parts : F → Parts) (keeps : List (KeepProof F))
    → map (λ x. x.hypothesis) keeps ≡ map (λ x. x.hypothesis) (map (keep_parts parts) keeps)
same_kept parts keeps = sym (map-map (λ x. x.hypothesis) (keep_parts parts) keeps)
