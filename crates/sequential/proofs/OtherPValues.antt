-- A case with other p-values is the content of a case still, and has the same opening.
use Rattle.std.proofs.Common.{◌≡◌, refl, sym, ap, subst, ◌∙◌, inl, inr, ℕ, ◌<◌, List, [], ◌∷◌, length, arith}
use Rattle.std.proofs.Common.{Result, Ok, Err, set, get_or, ◌+◌}
use Rattle.std.proofs.lemmas.Bool.{cases_eq}
use Rattle.std.proofs.lemmas.List.{get_or-set_same, get_or-set_other, get_or_default}
use Rattle.std.specs.Prelude.{IfOk, IfErr, IsErrAnd}
use Rattle.field_core.specs.declared.ratio.Ratio.{Ratio}
use Rattle.field_core.proofs.Live.{true_or_false}
use Rattle.fraction.specs.View.{number_of}
use Rattle.case_model.specs.Content.{Content, is_plain}
use Rattle.case_model.specs.declared.inputs.Inputs.TheVariants.{Single}
use Rattle.case_model.specs.Validity.{IsValidContent}
use Rattle.case_model.proofs.ValidContents.{with_inputs}
use Rattle.case_model.specs.Sums.{number_at, ratio_at, zero_ratio}
use Rattle.field_core.specs.Arithmetic.{◌*ε◌}
use Rattle.field_core.specs.Steps.{◌>>=◌}
use Rattle.field_core.specs.declared.place.WideAt.{WideAt}
use Rattle.removal.specs.InTurn.{removed_in_turn}
use Rattle.entangled.specs.CaseAfter.{case_after}
use Rattle.entangled.specs.OpenFaults.{IsOpenFaultOf, OpenFault}
use Rattle.field_core.specs.declared.fault.Fault.TheVariants.{Wide, NoMemory}
use Rattle.entangled.specs.CaseRun.{CaseState, case_opening, case_removal, opening_in, case_numbers, case_size, case_shares}
use Rattle.entangled.proofs.CaseLevels.{case_sizes}
use Rattle.entangled.proofs.CaseNumbers.{plain_opening, other_opening}
use Rattle.entangled.proofs.CaseRuns.{after_more, after_opening}
use Rattle.entangled.proofs.CaseSteps.{numbers_stay, case_shares_stay}
use Rattle.sequential.specs.OtherPValues.{with_p, CasesAreValidWithOtherPValues, IsTrialOfGraph}
use Rattle.sequential.specs.OpeningFault.{fault_at}
use Rattle.sequential.specs.Trials.{TrialContent}
use Rattle.sequential.specs.WideDecisions.{IsDecideFault}
use Rattle.sequential.specs.declared.fault.RunFault.{RunFault}
use Rattle.sequential.specs.declared.priority.Priority.{Priority}
use Rattle.sequential.proofs.TrialFacts.{sizes_are, p_values_are}
use Rattle.field_core.specs.Laws.Prefixes.{ok_same}

pub valid_with_p : CasesAreValidWithOtherPValues
valid_with_p c ps v are = with_inputs c (Single ps) v are

-- the p-values write nothing in the opening
pub opening_with : (c : Content) (ps : List Ratio) → case_opening (with_p c ps) ≡ case_opening c
unfolding opening_in is_plain
opening_with c ps = elim (true_or_false (is_plain c)) [
  | inl t ↦ plain_opening (with_p c ps) t ∙ sym (plain_opening c t)
  | inr f ↦ other_opening (with_p c ps) f ∙ sym (other_opening c f)
]

-- ---- trials with other p-values

-- the numbers and the shares are those that they were
record AreKept (s t : CaseState) : Type 0 where
  numbers : case_numbers t ≡ case_numbers s
  shares : case_shares t ≡ case_shares s

kept_by_one : (j : ℕ) (s t : CaseState) (f : CaseState → Result CaseState WideAt) → ((u : CaseState) → f u ≡ Ok t → AreKept u t)
    → (r : Result CaseState WideAt) → case_removal s j ≡ r → (r >>= f) ≡ Ok t → AreKept s t
kept_by_one j s t f rest (Ok u) e h = let r = rest u h in
    record { numbers = r.numbers ∙ numbers_stay s u j e; shares = r.shares ∙ case_shares_stay s u j e }
kept_by_one j s t f rest (Err w) e h = absurd (cc)

kept : (js : List ℕ) (s t : CaseState) → removed_in_turn case_removal s js ≡ Ok t → AreKept s t
unfolding removed_in_turn
kept [] s t h = let e = ok_same (Ok s) s t refl h in record { numbers = ap case_numbers (sym e); shares = ap case_shares (sym e) }
kept (j ∷ js) s t h = kept_by_one j s t (λ u. removed_in_turn case_removal u js) (λ u k. kept js u t k) (case_removal s j) refl h

-- a trial of the graph is of the numbers, the shares and the size of the opening
pub record IsLikeOpening (opening state : CaseState) : Type 0 where
  pub numbers : case_numbers state ≡ case_numbers opening
  pub size : case_size state ≡ case_size opening
  pub shares : case_shares state ≡ case_shares opening

module _ (c : Content) (t : TrialContent) (T : IsTrialOfGraph c t) (s : CaseState) (opened : case_opening c ≡ Ok s) (valid : IsValidContent c) where
  opened_with : case_after (with_p c T.p_values) [] ≡ Ok s
  opened_with = after_opening (with_p c T.p_values) s (opening_with c T.p_values ∙ opened)

  pub like_opening : IsLikeOpening s t.state
  like_opening =
      let r = kept t.rejected s t.state (sym (after_more (with_p c T.p_values) [] t.rejected s opened_with) ∙ T.is_trial.state) in
      record {
        numbers = r.numbers;
        size = sizes_are (with_p c T.p_values) t T.is_trial ∙ (p_values_are (with_p c T.p_values) t T.is_trial).count
            ∙ sym (case_sizes c [] s valid tt (after_opening c s opened));
        shares = r.shares;
      }

  -- it has a p-value for each hypothesis
  pub as_many : length t.p_values ≡ length c.names
  as_many = (p_values_are (with_p c T.p_values) t T.is_trial).count

-- what is read at a place
pub read_at : (xs : List Ratio) (k : ℕ) (x : Ratio) → k < length xs → x ≡ get_or xs k x → x ≡ ratio_at xs k
unfolding ratio_at
read_at xs k x h e = e ∙ get_or_default xs k x zero_ratio h

-- the least weights are those of the p-values before a place
pub one_more_threshold : (ps ts : List Ratio) (alpha x : Ratio) (k : ℕ) → k < length ts
    → ((i : ℕ) → i < k → number_at ts i *ε number_of alpha ≡ number_at ps i) → number_of x *ε number_of alpha ≡ number_at ps k
    → (i : ℕ) → i < k + 1 → number_at (set ts k x) i *ε number_of alpha ≡ number_at ps i
unfolding ratio_at
one_more_threshold ps ts alpha x k within before here i h = elim (cases_eq i k) [
  | inl e ↦ ap (λ n. number_at (set ts k x) n *ε number_of alpha) e
      ∙ ap (λ y. number_of y *ε number_of alpha) (get_or-set_same ts k x zero_ratio within) ∙ here ∙ ap (number_at ps) (sym e)
  | inr n ↦ ap (λ y. number_of y *ε number_of alpha) (get_or-set_other ts k i x zero_ratio n) ∙ before i (omega arith)
]

-- a refused opening is a fault of the decision with other p-values
pub wide_opening_with : {A : Type 0} (c : Content) (ps : List Ratio) (priority : Priority) (r : Result A RunFault) (opening : OpenFault)
    → IsErrAnd r (λ fault. fault ≡ fault_at 0 opening) → IsOpenFaultOf c opening → IfErr r (IsDecideFault (with_p c ps) priority)
wide_opening_with c ps priority (Ok x) opening e h = tt
wide_opening_with c ps priority (Err fault) opening e h = subst (IsDecideFault (with_p c ps) priority) (sym e) (by_opening opening h)
  where
    by_opening : (opening : OpenFault) → IsOpenFaultOf c opening → IsDecideFault (with_p c ps) priority (fault_at 0 opening)
    by_opening (Wide w) h = opening_with c ps ∙ h
    by_opening NoMemory h = tt

-- what follows of the value of an answer
pub if_ok : {A E : Type 0} (r : Result A E) (P Q : A → Type 0) → ((x : A) → P x → Q x) → IfOk r P → IfOk r Q
if_ok (Ok x) P Q step h = step x h
if_ok (Err e) P Q step h = tt
