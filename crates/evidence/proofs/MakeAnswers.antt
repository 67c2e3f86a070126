-- The evidence that is made of a case.
use Rattle.std.proofs.Common.{◌≡◌, inr, refl, sym, ap, subst, ◌∙◌, ℕ, List, [], ◌∷◌, Result, Ok, Err, IfOk, length, map, arith}
use Rattle.field_core.specs.declared.place.WideAt.{WideAt}
use Rattle.field_core.specs.Kind.{Kind, ok_map}
use Rattle.field_core.specs.Steps.{◌>>=◌}
use Rattle.field_core.specs.Sets.{whole}
use Rattle.field_core.specs.Runs.{IsOrder}
use Rattle.field_core.specs.Laws.Prefixes.{ok_same}
use Rattle.fraction.specs.View.{number_of}
use Rattle.case_model.specs.Sums.{number_at}
use Rattle.case_model.specs.Content.{Content, entangled, is_plain}
use Rattle.case_model.specs.Validity.{IsValidContent}
use Rattle.case_model.specs.LegalOrder.{IsLegalOrder, IsComplete}
use Rattle.case_model.proofs.SingleInputs.{for_single}
use Rattle.case_model.proofs.ValidContents.{valid_content}
use Rattle.case_numbers.specs.Numbers.{Numbers, numbers_of, kind_of}
use Rattle.case_numbers.proofs.Components.{can_run}
use Rattle.entangled.specs.Bundled.{Bundled}
use Rattle.entangled.specs.States.{state_in, graph_in, removal_in}
use Rattle.entangled.specs.CaseRun.{CaseState, state_of, case_size, opening_in, case_opening}
use Rattle.entangled.specs.CaseNetView.{case_state}
use Rattle.field_core.specs.Made.{Makes}
use Rattle.entangled.specs.OpenFaults.{OpenFault}
use Rattle.field_core.specs.declared.fault.Fault.TheVariants.{Wide as OpenWide, NoMemory as OpenNoMemory}
use Rattle.sequential.specs.Decisions.{IsDecision, IsDecisionWith, hypotheses}
use Rattle.sequential.specs.declared.decision.Decision.{Decision}
use Rattle.sequential.specs.declared.priority.Priority.{Priority}
use Rattle.sequential.proofs.DecisionLaws.{priority_order}
use Rattle.evidence_check.specs.Evidence.{others, kept}
use Rattle.evidence_check.specs.EvidenceParts.{KeepParts, keep_values}
use Rattle.evidence_check.specs.EvidenceView.{version_of, steps_of, keeps_of, IsFormOf, IsEvidenceFor}
use Rattle.evidence_check.specs.CaseCheck.{p_values_of, MeetsIn}
use Rattle.evidence_check.specs.declared.evidence.Evidence.{Evidence}
use Rattle.evidence_check.specs.declared.evidence.Evidence.TheVariants.{Plain, Eps}
use Rattle.evidence_check.proofs.CaseChecked.{listed_names}
use Rattle.evidence.specs.FlowRun.{at_step, evidence_run}
use Rattle.evidence.specs.CaseFlows.{IsCompleteOrder, case_flows, flows_in, AreOpened, flows_from, has_fractions}
use Rattle.evidence.specs.Made.{MakesAll, written_evidence}
use Rattle.sequential.specs.OpeningFault.{fault_at}
use Rattle.sequential.specs.declared.fault.RunFault.{RunFault}
use Rattle.evidence.proofs.CaseEvidence.{case_opening_is, case_order, flows_fit, flows_list, flows_meet}

-- ---- the opening

refused : (n : Numbers) (js : List ℕ) (r : Result (Bundled (state_in n)) WideAt) (w : WideAt) → ok_map (state_of n) r ≡ Err w
    → (at_step 0 r >>= λ b. evidence_run (kind_of n) (graph_in n) (removal_in n) b js) ≡ Err (record { step = 0; at = w })
refused n js (Ok b) w h = absurd (cc)
refused n js (Err v) w h = ap (λ v. Err (record { step = 0; at = v })) (same_error _ v w refl h)
  where
    same_error : (r : Result CaseState WideAt) (v w : WideAt) → r ≡ Err v → r ≡ Err w → v ≡ w
    same_error r v w h k = cc

-- a refused opening is step 0 of the run
pub opening_refused : (c : Content) (js : List ℕ) (f : OpenFault) → Makes case_state (Err f) (case_opening c)
    → MakesAll written_evidence (Err (fault_at 0 f)) (case_flows c js)
unfolding case_opening case_flows flows_in
opening_refused c js (OpenWide w) h = refused (numbers_of c) js (opening_in (numbers_of c) c) w h
opening_refused c js OpenNoMemory h = tt

run_from : (n : Numbers) (js : List ℕ) (r : Result (Bundled (state_in n)) WideAt) (s : CaseState) → ok_map (state_of n) r ≡ Ok s
    → (at_step 0 r >>= λ b. evidence_run (kind_of n) (graph_in n) (removal_in n) b js) ≡ flows_from s js
run_from n js (Ok b) s h = ap (λ t. flows_from t js) (ok_same (ok_map {E = WideAt} (state_of n) (Ok b)) (state_of n b) s refl h)
run_from n js (Err w) s h = absurd (cc)

-- the run of a case is that of its nets as they are opened
pub flows_by : (c : Content) (js : List ℕ) (s : CaseState) → case_opening c ≡ Ok s → case_flows c js ≡ flows_from s js
unfolding case_opening case_flows flows_in
flows_by c js s h = run_from (numbers_of c) js (opening_in (numbers_of c) c) s h

opened_by : (c : Content) → IsValidContent c → (r : Result (Bundled (state_in (numbers_of c))) WideAt) → opening_in (numbers_of c) c ≡ r
    → (s : CaseState) → ok_map (state_of (numbers_of c)) r ≡ Ok s
    → AreOpened s × (case_size s ≡ length c.names)
opened_by c V (Ok b) e s h =
    let B = case_opening_is (numbers_of c) c b V (can_run c) e in
    subst (λ t. AreOpened t × (case_size t ≡ length c.names))
    (ok_same (ok_map {E = WideAt} (state_of (numbers_of c)) (Ok b)) (state_of (numbers_of c) b) s refl h) (B.opened, B.size)
opened_by c V (Err w) e s h = absurd (cc)

case_opened : (c : Content) → IsValidContent c → (s : CaseState) → case_opening c ≡ Ok s → AreOpened s × (case_size s ≡ length c.names)
unfolding case_opening
case_opened c V s h = opened_by c V (opening_in (numbers_of c) c) refl s h

module _ (c : Content) (V : IsValidContent c) (s : CaseState) (h : case_opening c ≡ Ok s) where
  pub nets_opened : AreOpened s
  nets_opened = (case_opened c V s h).0

  pub nets_order : (js : List ℕ) → IsCompleteOrder c js → IsOrder (case_size s) whole js
  nets_order js o = subst (λ m. IsOrder m whole js) (sym (case_opened c V s h).1)
      (case_order c V (number_at (p_values_of c.inputs)) (number_of c.alpha) js o.legal)

-- evidence in fractions is that of a plain case
pub form_is : (c : Content) (v : Evidence) → has_fractions v ≡ is_plain c → IsFormOf c v
form_is c (Plain v) e = sym e
form_is c (Eps v) e = sym e

pub if_ok : {A E : Type 0} (P Q : A → Type 0) → ((x : A) → P x → Q x) → (r : Result A E) → IfOk r P → IfOk r Q
if_ok P Q step (Ok x) h = step x h
if_ok P Q step (Err e) h = tt

-- ---- what is made along a complete legal order

kept_names : (K : Kind) (xs : List KeepParts) → kept (map (keep_values K) xs) ≡ map (λ x. x.hypothesis) xs
kept_names K [] = refl
kept_names K (x ∷ xs) = ap (λ ks. x.hypothesis ∷ ks) (kept_names K xs)

module _ (c : Content) (V : IsValidContent c) (js : List ℕ) (o : IsCompleteOrder c js) where
  module _ (v : Evidence) (h : case_flows c js ≡ Ok (written_evidence v)) where
    lists : map (λ s. s.hypothesis) (steps_of v) ≡ js
    unfolding case_flows
    lists = sym (listed_names (kind_of (numbers_of c)) (steps_of v))
        ∙ flows_list c V (number_at (p_values_of c.inputs)) (number_of c.alpha) js o.legal (numbers_of c) (can_run c) (written_evidence v) h

    meets : MeetsIn c (steps_of v) (keeps_of v)
    unfolding case_flows
    meets = (flows_meet c V (number_at (p_values_of c.inputs)) (number_of c.alpha) js o.legal (numbers_of c) (can_run c) o.complete (written_evidence v) h).0

    keeps : map (λ x. x.hypothesis) (keeps_of v) ≡ others (length c.names) js
    unfolding case_flows
    keeps =
        sym (kept_names (kind_of (numbers_of c)) (keeps_of v))
        ∙ (flows_meet c V (number_at (p_values_of c.inputs)) (number_of c.alpha) js o.legal (numbers_of c) (can_run c) o.complete (written_evidence v) h).1
        ∙ ap (others (length c.names)) (listed_names (kind_of (numbers_of c)) (steps_of v) ∙ lists)

    fits : IsFormOf c v → version_of v ≡ 2 → IsEvidenceFor c v
    unfolding case_flows
    fits f two = record {
      form = f;
      version = inr two;
      size = flows_fit c V (number_at (p_values_of c.inputs)) (number_of c.alpha) js o.legal (numbers_of c) (can_run c) (written_evidence v) h;
      none = λ one. absurd (other_version (version_of v) one two);
      all = λ e. keeps ∙ ap (others (length c.names)) (sym lists);
    }
      where
        other_version : (n : ℕ) → n ≡ 1 → n ≡ 2 → ⊥
        other_version n e f = omega arith

  pub made_lists : (r : Result Evidence RunFault) → MakesAll written_evidence r (case_flows c js)
      → IfOk r (λ v. map (λ s. s.hypothesis) (steps_of v) ≡ js)
  made_lists (Ok v) m = lists v m
  made_lists (Err f) m = tt

  pub made_keeps : (r : Result Evidence RunFault) → MakesAll written_evidence r (case_flows c js)
      → IfOk r (λ v. map (λ x. x.hypothesis) (keeps_of v) ≡ others (length c.names) js)
  made_keeps (Ok v) m = keeps v m
  made_keeps (Err f) m = tt

  pub made_meets : (r : Result Evidence RunFault) → MakesAll written_evidence r (case_flows c js) → IfOk r (λ v. MeetsIn c (steps_of v) (keeps_of v))
  made_meets (Ok v) m = meets v m
  made_meets (Err f) m = tt

  pub made_fits : (r : Result Evidence RunFault) → MakesAll written_evidence r (case_flows c js) → IfOk r (IsFormOf c)
      → IfOk r (λ v. version_of v ≡ 2) → IfOk r (IsEvidenceFor c)
  made_fits (Ok v) m f two = fits v m f two
  made_fits (Err e) m f two = tt

-- ---- decisions

-- the steps of a decision are a complete legal order
pub decision_order : (c : Content) (priority : Priority) (d : Decision) → IsValidContent c → IsDecision c priority d
    → IsCompleteOrder c (hypotheses d.steps)
decision_order c priority d V D =
    let o = for_single (λ ps. IsDecisionWith c ps priority d)
    (λ i. IsLegalOrder (entangled c) (number_at (p_values_of i)) (number_of c.alpha) whole (hypotheses d.steps)
    × IsComplete (entangled c) (number_at (p_values_of i)) (number_of c.alpha) whole (hypotheses d.steps))
    (λ ps W. priority_order (entangled c) (number_at ps) (number_of c.alpha) priority (hypotheses d.steps) (valid_content c V) W.order) c.inputs D in
    record { legal = o.0; complete = o.1 }
