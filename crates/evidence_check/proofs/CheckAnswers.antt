-- The whole check of evidence for a case.
use Rattle.std.proofs.Common.{◌≡◌, refl, sym, ap, ap₂, subst, ◌∙◌, ℕ, ◌<◌, Bool, true, false, List, [], ◌∷◌, map, length, Result, Ok, Err}
use Rattle.std.specs.List.{All}
use Rattle.std.specs.Bool.{Decides}
use Rattle.std.proofs.lemmas.List.{length-map}
use Rattle.std.proofs.lemmas.List.Elements.{All-nil, All-cons, All-map}
use Rattle.field_core.specs.Kind.{Parts, Kind}
use Rattle.field_core.specs.Steps.{◌>>=◌}
use Rattle.fraction.specs.Plain.{plain, fraction_parts, fraction_stored}
use Rattle.fraction.specs.Laws.PlainLaws.{plain_is_exact}
use Rattle.eps_quotient.specs.Quotients.{quotients}
use Rattle.eps_quotient.specs.View.{quotient_parts}
use Rattle.eps_quotient.specs.Laws.Exact.{quotients_are_exact}
use Rattle.case_model.specs.Content.{Content, entangled, is_plain}
use Rattle.case_model.specs.Validity.{IsValidContent}
use Rattle.case_model.proofs.Holding.{all_from_map}
use Rattle.case_numbers.specs.Numbers.{Numbers, in_fractions, in_quotients, numbers_of, CanRunIn, kind_of, IsStoredIn}
use Rattle.evidence_check.specs.Evidence.{others, KeepsOthers}
use Rattle.evidence_check.specs.EvidenceParts.{StepParts, KeepParts, part_at, keep_values}
use Rattle.evidence_check.specs.EvidenceView.{step_parts, keep_parts, steps_of, keeps_of, IsOfCase, IsEvidenceFor}
use Rattle.evidence_check.specs.declared.evidence.ProofStep.{ProofStep}
use Rattle.evidence_check.specs.declared.evidence.KeepProof.{KeepProof}
use Rattle.evidence_check.specs.declared.evidence.Evidence.{Evidence}
use Rattle.evidence_check.specs.declared.evidence.Evidence.TheVariants.{Plain, Eps}
use Rattle.evidence_check.specs.declared.evidence.Steps.{Steps}
use Rattle.evidence_check.specs.declared.event.CheckEvent.{CheckEvent}
use Rattle.evidence_check.specs.declared.event.CheckEvent.TheVariants.{Broken, Undefined}
use Rattle.evidence_check.specs.declared.event.CheckEventAt.{CheckEventAt}
use Rattle.evidence_check.specs.declared.verdict.Reason.{Reason}
use Rattle.evidence_check.specs.declared.verdict.Verdict.{Verdict}
use Rattle.evidence_check.specs.declared.verdict.Verdict.TheVariants.{Yes, No}
use Rattle.evidence_check.specs.CheckSteps.{numbered}
use Rattle.evidence_check.specs.WrittenCheck.{steps_check, keeps_check, written_check}
use Rattle.evidence_check.specs.CheckStatements.{IsLoaded, AreStoredSteps}
use Rattle.evidence_check.specs.CaseCheck.{loaded_case, all_loads, check_in, case_check, verdict_by, verdict_of, AreStepsOf, values_in}
use Rattle.evidence_check.proofs.CaseChecked.{loads_done, is_loaded, listed_names}
use Rattle.evidence_check.proofs.CaseLimits.{part_stored}

-- ---- in these numbers

numbered_ok : (r : Result (Unit {0}) CheckEvent) (u : Unit {0}) → numbered 0 r ≡ Ok u → r ≡ Ok tt
unfolding numbered
numbered_ok (Ok v) u w = refl
numbered_ok (Err e) u w = absurd (cc)

-- a case that was loaded has the values of its graph
pub loaded_in : (K : Kind) (IsStored : Parts → Type 0) (n : Numbers) (c : Content) (V : IsValidContent c) → CanRunIn n c → K ≡ kind_of n
    → ((x : Parts) → IsStoredIn n x → IsStored x) → (u : Unit {0}) → numbered 0 (all_loads n c) ≡ Ok u
    → IsLoaded IsStored (loaded_case K n c) (entangled c)
loaded_in K IsStored n c V P k stored u h =
    let D = subst (λ K. IsLoaded (IsStoredIn n) (loaded_case K n c) (entangled c)) (sym k)
    (is_loaded c V n P (loads_done n c (numbered_ok (all_loads n c) u h))) in
    record {
      components = D.components;
      share = D.share;
      weight = λ i j p q. let G = D.weight i j p q in record { stored = stored _ G.stored; value = G.value };
      edge = λ i l j p q r. let G = D.edge i l j p q r in record { stored = stored _ G.stored; value = G.value };
    }

module _ (K : Kind) (n : Numbers) (c : Content) (steps : List StepParts) (keeps : List KeepParts) where
  check_in_is : check_in K n c steps
      keeps ≡ (numbered 0 (all_loads n c) >>= λ _. steps_check K (loaded_case K n c) [] steps >>= λ js. keeps_check K (loaded_case K n c) js
      (length steps) keeps)
  unfolding check_in written_check
  check_in_is = refl

  pub loads_refused : (e : CheckEventAt) → numbered 0 (all_loads n c) ≡ Err e → check_in K n c steps keeps ≡ Err e
  loads_refused e h = rw (check_in_is, h) refl

  module _ (u : Unit {0}) (l : numbered 0 (all_loads n c) ≡ Ok u) where
    pub steps_refused : (e : CheckEventAt) → steps_check K (loaded_case K n c) [] steps ≡ Err e → check_in K n c steps keeps ≡ Err e
    steps_refused e h = rw (check_in_is, l, h) refl

    pub check_done : (js : List ℕ) → steps_check K (loaded_case K n c) [] steps ≡ Ok js
        → check_in K n c steps keeps ≡ keeps_check K (loaded_case K n c) js (length steps) keeps
    check_done js h = rw (check_in_is, l, h) refl

module _ {F : Type 0} (parts : F → Parts) (ss ts : List (ProofStep F)) (xs ys : List (KeepProof F)) (e : ss ≡ ts) (d : xs ≡ ys) where
  pub same_check : (K : Kind) (n : Numbers) (c : Content)
      → check_in K n c (map (step_parts parts) ss) (map (keep_parts parts) xs) ≡ check_in K n c (map (step_parts parts) ts) (map (keep_parts parts) ys)
  same_check K n c = ap₂ (λ ss xs. check_in K n c (map (step_parts parts) ss) (map (keep_parts parts) xs)) e d

  pub same_count : length (map (step_parts parts) ss) ≡ length ss
  same_count = length-map ss (step_parts parts)

-- ---- for a case

module _ (c : Content) where
  pub fractions_of : is_plain c ≡ true → numbers_of c ≡ in_fractions
  unfolding numbers_of
  fractions_of h = rw h refl

  pub quotients_of : is_plain c ≡ false → numbers_of c ≡ in_quotients
  unfolding numbers_of
  quotients_of h = rw h refl

  case_check_is : (n : Numbers) → numbers_of c ≡ n → (steps : List StepParts) (keeps : List KeepParts)
      → check_in (kind_of n) n c steps keeps ≡ case_check c steps keeps
  unfolding case_check
  case_check_is n e steps keeps = ap (λ n. check_in (kind_of n) n c steps keeps) (sym e)

  pub form_of : (e f : Evidence) → e ≡ f → IsOfCase c e → IsOfCase c f
  form_of e f h I = subst (IsOfCase c) h I

  pub plain_check : (v : Steps _) (e : Evidence) → e ≡ Plain v → is_plain c ≡ true
      → check_in plain in_fractions c (map (step_parts fraction_parts) v.steps) (map (keep_parts fraction_parts) v.keeps) ≡ case_check c (steps_of e)
      (keeps_of e)
  plain_check v e h p = case_check_is in_fractions (fractions_of p) _ _ ∙ ap (λ e. case_check c (steps_of e) (keeps_of e)) (sym h)

  pub eps_check : (v : Steps _) (e : Evidence) → e ≡ Eps v → is_plain c ≡ false
      → check_in quotients in_quotients c (map (step_parts quotient_parts) v.steps) (map (keep_parts quotient_parts) v.keeps) ≡ case_check c (steps_of e)
      (keeps_of e)
  eps_check v e h p = case_check_is in_quotients (quotients_of p) _ _ ∙ ap (λ e. case_check c (steps_of e) (keeps_of e)) (sym h)

-- what a yes and a no say of the check
no_yes : (n : ℕ) (v : CheckEvent) → verdict_by n v ≡ Ok Yes → ⊥
no_yes n (Broken reason) h = absurd (cc)
no_yes n (Undefined w) h = absurd (cc)

pub yes_is : (r : Result (Unit {0}) CheckEventAt) → verdict_of r ≡ Ok Yes → r ≡ Ok tt
unfolding verdict_of
yes_is (Ok u) h = refl
yes_is (Err e) h = absurd (no_yes e.number e.event h)

event_is : (k : ℕ) (v : CheckEvent) (n : ℕ) (reason : Reason) → verdict_by k v ≡ Ok (No n reason)
    → Path CheckEventAt (record { number = k; event = v }) (record { number = n; event = Broken reason })
event_is k (Broken other) n reason h =
    let f : Path Verdict (No k other) (No n reason) = cc in
    let a : k ≡ n = cc in
    let b : other ≡ reason = cc in
    ap₂ (λ k r. record { number = k; event = Broken r }) a b
event_is k (Undefined w) n reason h = absurd (cc)

pub no_is : (r : Result (Unit {0}) CheckEventAt) (n : ℕ) (reason : Reason) → verdict_of r ≡ Ok (No n reason)
    → r ≡ Err (record { number = n; event = Broken reason })
unfolding verdict_of
no_is (Ok u) n reason h = absurd (cc)
no_is (Err e) n reason h = ap Err (event_is e.number e.event n reason h)

all_mapped : {A B : Type 0} (P : B → Type 0) (f : A → B) → ((x : A) → P (f x)) → (xs : List A) → All P (map f xs)
all_mapped P f h [] = All-nil P
all_mapped P f h (x ∷ xs) = All-cons P (f x) (map f xs) (h x) (all_mapped P f h xs)

stored_steps : {F : Type 0} (n : Numbers) (parts : F → Parts) → IsStoredIn n (kind_of n).zero → ((x : F) → IsStoredIn n (parts x))
    → (m : ℕ) (ss : List (ProofStep F)) (xs : List (KeepProof F))
    → All (λ s. s.hypothesis < m) (map (step_parts parts) ss) → All (λ x. x.hypothesis < m) (map (keep_parts parts) xs)
    → AreStoredSteps (kind_of n) (IsStoredIn n) m (map (step_parts parts) ss) (map (keep_parts parts) xs)
stored_steps n parts zero each m ss xs below above = record {
  steps_below = below;
  steps_stored = all_mapped (λ s. (c e : ℕ) → IsStoredIn n (part_at (kind_of n) s.flows c e)) (step_parts parts)
      (λ s. part_stored (kind_of n) (IsStoredIn n) zero parts each s.flows) ss;
  keeps_below = above;
  keeps_stored = all_mapped (λ x. (c e : ℕ) → IsStoredIn n (part_at (kind_of n) x.exits c e)) (keep_parts parts)
      (λ x. part_stored (kind_of n) (IsStoredIn n) zero parts each x.exits) xs;
}

-- evidence for a case is of the case
pub of_case : (c : Content) (e : Evidence) → IsEvidenceFor c e → IsOfCase c e
of_case c e I = record { form = I.form; steps = I.size.steps_below; keeps = I.size.keeps_below }

-- evidence of a case is stored in its numbers
pub evidence_stored : (c : Content) (e : Evidence) → IsOfCase c e → AreStepsOf c (steps_of e) (keeps_of e)
evidence_stored c (Plain v) I =
    subst (λ n. AreStoredSteps (kind_of n) (IsStoredIn n) (length c.names) (map (step_parts fraction_parts) v.steps) (map (keep_parts fraction_parts) v.keeps))
    (sym (fractions_of c I.form))
    (stored_steps in_fractions fraction_parts plain_is_exact.zero_stored fraction_stored (length c.names) v.steps v.keeps I.steps I.keeps)
evidence_stored c (Eps v) I =
    subst (λ n. AreStoredSteps (kind_of n) (IsStoredIn n) (length c.names) (map (step_parts quotient_parts) v.steps) (map (keep_parts quotient_parts) v.keeps))
    (sym (quotients_of c I.form))
    (stored_steps in_quotients quotient_parts quotients_are_exact.zero_stored (λ x. x.stored) (length c.names) v.steps v.keeps I.steps I.keeps)

-- ---- whether evidence is of a case

module _ (c : Content) (m : ℕ) (b : Bool) (s : m ≡ length c.names) (e : Evidence) where
  -- the hypotheses of these steps and keeps are below a number
  abbrev pub AreBelow : {F : Type 0} → ℕ → Steps F → Type 0
  AreBelow n v = All (λ s. s.hypothesis < n) v.steps × All (λ x. x.hypothesis < n) v.keeps

  in_parts : {F : Type 0} (parts : F → Parts) (v : Steps F) → Decides b (AreBelow m v)
      → Decides b (All (λ s. s.hypothesis < length c.names) (map (step_parts parts) v.steps)
      × All (λ x. x.hypothesis < length c.names) (map (keep_parts parts) v.keeps))
  in_parts parts v d =
      let S = λ (s : StepParts). s.hypothesis < length c.names in
      let X = λ (x : KeepParts). x.hypothesis < length c.names in
      let D = subst (λ n. Decides b (AreBelow n v)) s d in (
        λ t. (All-map S (step_parts parts) v.steps (D.0 t).0, All-map X (keep_parts parts) v.keeps (D.0 t).1),
        λ h. D.1 (all_from_map S (step_parts parts) v.steps h.0, all_from_map X (keep_parts parts) v.keeps h.1),
      )

  pub plain_of_case : (v : Steps _) → e ≡ Plain v → is_plain c ≡ true → Decides b (AreBelow m v) → Decides b (IsOfCase c e)
  plain_of_case v h p d =
      let D = in_parts fraction_parts v d in
      subst (λ e. Decides b (IsOfCase c e)) (sym h) (λ t. record { form = p; steps = (D.0 t).0; keeps = (D.0 t).1 }, λ o. D.1 (o.steps, o.keeps))

  pub eps_of_case : (v : Steps _) → e ≡ Eps v → is_plain c ≡ false → Decides b (AreBelow m v) → Decides b (IsOfCase c e)
  eps_of_case v h p d =
      let D = in_parts quotient_parts v d in
      subst (λ e. Decides b (IsOfCase c e)) (sym h) (λ t. record { form = p; steps = (D.0 t).0; keeps = (D.0 t).1 }, λ o. D.1 (o.steps, o.keeps))

-- ---- keeps of all others

kept_names : (K : Kind) (keeps : List KeepParts) → map (λ x. x.hypothesis) (map (keep_values K) keeps) ≡ map (λ x. x.hypothesis) keeps
kept_names K [] = refl
kept_names K (x ∷ keeps) = ap (λ ks. x.hypothesis ∷ ks) (kept_names K keeps)

-- the keeps are of all others, by the values of their numbers too
pub keeps_others : (c : Content) (steps : List StepParts) (keeps : List KeepParts)
    → map (λ x. x.hypothesis) keeps ≡ others (length c.names) (map (λ s. s.hypothesis) steps) → KeepsOthers (length c.names) (values_in c steps keeps)
keeps_others c steps keeps all = kept_names (kind_of (numbers_of c)) keeps ∙ all
    ∙ ap (others (length c.names)) (sym (listed_names (kind_of (numbers_of c)) steps))
