-- What a written flow run gives is evidence that the program can hold.
use Rattle.std.proofs.Common.{◌≡◌, inl, inr, sym, ap, ◌∙◌, subst, ℕ, List, [], length, get_or, Ok}
use Rattle.std.proofs.lemmas.List.{get_or_default}
use Rattle.std.specs.List.{All}
use Rattle.field_core.specs.Answers.{mapped}
use Rattle.field_core.specs.Kind.{Parts, Kind}
use Rattle.field_core.specs.declared.ratio.Ratio.{Ratio}
use Rattle.field_core.proofs.Live.{true_or_false}
use Rattle.field_core.proofs.Results.{made_of}
use Rattle.fraction.specs.Plain.{IsFraction, pair_of, fraction_parts}
use Rattle.fraction.specs.View.{number_of}
use Rattle.eps_quotient.specs.Stored.{IsQuotient}
use Rattle.eps_quotient.specs.View.{quotient_parts}
use Rattle.case_model.specs.Content.{Content, is_plain}
use Rattle.case_model.specs.Sums.{number_at}
use Rattle.case_model.specs.Validity.{IsValidContent}
use Rattle.case_numbers.specs.Numbers.{in_fractions, in_quotients, numbers_of, kind_of, IsStoredIn}
use Rattle.case_numbers.proofs.Components.{can_run}
use Rattle.evidence_check.specs.CaseCheck.{p_values_of, AreStepsOf}
use Rattle.evidence_check.specs.CheckStatements.{AreStoredSteps}
use Rattle.evidence_check.specs.EvidenceParts.{numbers_at, part_at}
use Rattle.evidence_check.specs.EvidenceView.{version_of, IsFormOf, IsEvidenceFor}
use Rattle.evidence_check.specs.ReadView.{said_in}
use Rattle.evidence_check.specs.declared.evidence.Evidence.{Evidence}
use Rattle.evidence_check.specs.declared.evidence.Evidence.TheVariants.{Plain, Eps}
use Rattle.evidence_check.specs.declared.evidence.Steps.{Steps}
use Rattle.evidence_check.proofs.CheckAnswers.{fractions_of, quotients_of}
use Rattle.evidence_check.proofs.SaidEvidence.{Typed, said_typed}
use Rattle.evidence_check.proofs.TypedNumbers.{held_quotient}
use Rattle.evidence.specs.CaseFlows.{IsCompleteOrder, case_flows}
use Rattle.evidence.specs.FlowRun.{WrittenEvidence}
use Rattle.evidence.specs.Made.{written_evidence}
use Rattle.evidence.proofs.CaseEvidence.{flows_stored}
use Rattle.evidence.proofs.MakeAnswers.{made_fits}
use Rattle.sequential.specs.Decisions.{hypotheses}
use Rattle.sequential.specs.declared.decision.Decision.{Decision}
use Rattle.graph_cli.specs.Check.{Said, said_of}
use Rattle.graph_cli.specs.Evidence.{IsFlowRun, said_in_full, flown}

-- ---- stored numbers are the program's

-- a stored fraction is one of the program's
held_fraction : (x : Parts) → IsFraction x → (z : Ratio) × (fraction_parts z ≡ x)
held_fraction x f = (record { num = (pair_of x).num; den = (pair_of x).den; valid = f.reduced }, sym f.shape)

module _ (K : Kind) (IsStored : Parts → Type 0) {F : Type 0} (parts : F → Parts) (hold : (x : Parts) → IsStored x → (z : F) × (parts z ≡ x)) where
  lists_held : (lists : List (List Parts)) → ((c e : ℕ) → IsStored (part_at K lists c e)) → All (All (Typed parts)) lists
  unfolding numbers_at
  lists_held lists h = λ c xs p e x q. hold _ (subst IsStored
      (ap (λ ys. get_or ys e K.zero) (get_or_default lists c [] xs p) ∙ get_or_default (get_or lists c xs) e K.zero x q) (h c e))

  said_held : (m : ℕ) (v : WrittenEvidence) → AreStoredSteps K IsStored m v.steps v.keeps → (w : Steps F) × (said_in parts w ≡ said_in_full v)
  said_held m v h = said_typed parts (said_in_full v) (λ k s q. lists_held _ (h.steps_stored k s q)) (λ k x q. lists_held _ (h.keeps_stored k x q))

-- ---- evidence

-- evidence that has the form of the case, and is as it was written, of version 2
record IsHeld (c : Content) (v : WrittenEvidence) (e : Evidence) : Type 0 where
  form : IsFormOf c e
  same : said_of e ≡ said_in_full v

held : (c : Content) (v : WrittenEvidence) → AreStepsOf c v.steps v.keeps → (e : Evidence) × IsHeld c v e
held c v h = elim (true_or_false (is_plain c)) [
  | inl p ↦
      let s = subst (λ n. AreStoredSteps (kind_of n) (IsStoredIn n) (length c.names) v.steps v.keeps) (fractions_of c p) h in
      let w = said_held (kind_of in_fractions) IsFraction fraction_parts held_fraction _ v s in
      (Plain w.0, record { form = p; same = w.1 })
  | inr p ↦
      let s = subst (λ n. AreStoredSteps (kind_of n) (IsStoredIn n) (length c.names) v.steps v.keeps) (quotients_of c p) h in
      let w = said_held (kind_of in_quotients) IsQuotient quotient_parts held_quotient _ v s in
      (Eps w.0, record { form = p; same = w.1 })
]

module _ (c : Content) (V : IsValidContent c) (js : List ℕ) (o : IsCompleteOrder c js) where
  stored : (v : WrittenEvidence) → case_flows c js ≡ Ok v → AreStepsOf c v.steps v.keeps
  unfolding case_flows
  stored v h = flows_stored c V (number_at (p_values_of c.inputs)) (number_of c.alpha) js o.legal (numbers_of c) (can_run c) v h

  -- what the written flow run along a complete legal order gives is evidence of version 2 for the case
  pub flow_evidence : (v : WrittenEvidence) → case_flows c js ≡ Ok v
      → (e : Evidence) × IsEvidenceFor c e × (version_of e ≡ 2) × (case_flows c js ≡ Ok (written_evidence e)) × (said_of e ≡ said_in_full v)
  flow_evidence v h =
      let e = held c v (stored v h) in
      let two = ap (λ (said : Said). said.version) e.1.same in
      let written : case_flows c js ≡ Ok (written_evidence e.0) =
      h ∙ ap (λ (said : Said). Ok (record { steps = said.steps; keeps = said.keeps })) (sym e.1.same) in
      (e.0, made_fits c V js o (Ok e.0) written e.1.form two, two, written, e.1.same)

-- what is flown along the steps of a decision is what such evidence says
pub flown_evidence : (c : Content) → IsValidContent c → (d : Decision) → IsCompleteOrder c (hypotheses d.steps) → (said : Said)
    → (flown c d).Gives said → (v : Evidence) × IsFlowRun c d v × (said ≡ said_of v)
flown_evidence c V d o said g =
    let run = made_of said_in_full (case_flows c (hypotheses d.steps)) said g in
    let e = flow_evidence c V (hypotheses d.steps) o run.0 run.1 in
    (e.0, record { fits = e.1; version = e.2; run = e.3 }, run.2 ∙ sym e.4)

pub evidence_flown : (c : Content) (d : Decision) (v : Evidence) → IsFlowRun c d v → (flown c d).Gives (said_of v)
evidence_flown c d v f = ap (mapped said_in_full) f.run ∙ ap (λ n. Ok (record { version = n; steps = (said_of v).steps; keeps = (said_of v).keeps })) (sym f.version)
