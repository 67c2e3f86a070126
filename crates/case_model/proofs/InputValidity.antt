-- The p-values and the stages of a draft have no fault exactly if the inputs of its content are valid.
use Rattle.std.proofs.Common.{◌≡◌, ◌⊎◌, ◌↔◌, inl, inr, refl, sym, ap, subst, ◌∙◌, ℕ, zero, suc, ◌&&◌, Bool, true, false, cond}
use Rattle.std.proofs.Common.{List, [], ◌∷◌, length, slice_get, is_some, is_none, Option, Some, None, arith}
use Rattle.std.specs.List.{list_all, list_any}
use Rattle.std.specs.Option.{option_map_or}
use Rattle.field_core.proofs.Live.{true_not_false}
use Rattle.field_core.specs.declared.ratio.Ratio.{Ratio}
use Rattle.case_model.specs.declared.draft_stages.DraftStages.{DraftStages}
use Rattle.case_model.specs.declared.inputs.Inputs.TheVariants.{Bare, Single}
use Rattle.case_model.specs.Draft.{is_p_value, arrives_among}
use Rattle.case_model.specs.Content.{given, inputs_of, inputs_given}
use Rattle.case_model.specs.CaseFaults.{long_stage_part, stages_fault}
use Rattle.case_model.specs.Validity.{Each, AreValidInputs}
use Rattle.case_model.proofs.Holding.{both}
use Rattle.case_model.proofs.DraftTests.{some_given}
use Rattle.case_model.proofs.StageValidity.{stages_agree}

-- each p-value that is given passes a test
abbrev pub GivenPass : (Ratio → Bool) → List (Option Ratio) → Type 0
GivenPass test ps = (i : ℕ) (x : Ratio) → slice_get ps i ≡ Some (Some x) → test x ≡ true

module _ (test : Ratio → Bool) where
  pass_all : (ps : List (Option Ratio)) → GivenPass test ps → list_all test (given ps) ≡ true
  unfolding given
  pass_all [] h = refl
  pass_all (None ∷ ps) h = pass_all ps (λ i. h (suc i))
  pass_all (Some p ∷ ps) h = ap (λ b. b && list_all test (given ps)) (h 0 p refl) ∙ pass_all ps (λ i. h (suc i))

  all_pass : (ps : List (Option Ratio)) → list_all test (given ps) ≡ true → GivenPass test ps
  unfolding given
  all_pass [] h zero x e = absurd (let q : Path (Option (Option Ratio)) None (Some (Some x)) = e in cc)
  all_pass [] h (suc i) x e = absurd (let q : Path (Option (Option Ratio)) None (Some (Some x)) = e in cc)
  all_pass (None ∷ ps) h zero x e = absurd (let q : Path (Option (Option Ratio)) (Some None) (Some (Some x)) = e in cc)
  all_pass (None ∷ ps) h (suc i) x e = all_pass ps h i x e
  all_pass (Some p ∷ ps) h zero x e =
      let same : p ≡ x = let q : Path (Option (Option Ratio)) (Some (Some p)) (Some (Some x)) = e in cc in
      ap test (sym same) ∙ (both (test p) (list_all test (given ps)) h).left
  all_pass (Some p ∷ ps) h (suc i) x e = all_pass ps (both (test p) (list_all test (given ps)) h).right i x e

length-given : (ps : List (Option Ratio)) → Each ps (λ p. is_none p ≡ false) → length (given ps) ≡ length ps
unfolding given
length-given [] h = refl
length-given (None ∷ ps) h = absurd (let q : true ≡ false = h 0 None refl in cc)
length-given (Some p ∷ ps) h = ap suc (length-given ps (λ i. h (suc i)))

module _ (ps : List (Option Ratio)) where
  -- p-values are given to all places or to none
  abbrev pub AllOrNone : Type 0
  AllOrNone = list_any is_some ps ≡ true → Each ps (λ p. is_none p ≡ false)

  some_places : list_any is_some ps ≡ true → ¬ (length ps ≡ 0)
  some_places some none = go ps some none
    where
      go : (ps : List (Option Ratio)) → list_any is_some ps ≡ true → length ps ≡ 0 → ⊥
      go [] e n = absurd (cc)
      go (p ∷ ps) e n = absurd (omega arith)

  single_agrees : (m : ℕ) (alpha : Ratio) → (length ps ≡ 0) ⊎ (length ps ≡ m) → AllOrNone
      → GivenPass is_p_value ps ↔ AreValidInputs m alpha (inputs_given ps)
  single_agrees m alpha count all = by (list_any is_some ps) refl
    where
      by : (b : Bool) → list_any is_some ps ≡ b → GivenPass is_p_value ps ↔ AreValidInputs m alpha (cond b (Single (given ps)) Bare)
      by true e = (
        λ h. record {
          count = length-given ps (all e) ∙ elim count [ inl none ↦ absurd (some_places e none) | inr n ↦ n ];
          each = pass_all is_p_value ps h;
        },
        λ v. all_pass is_p_value ps v.each,
      )
      by false e = (λ h. tt, λ v i x q. absurd (true_not_false (sym (some_given ps i x q) ∙ e)))

  none_given : length ps ≡ 0 → GivenPass is_p_value ps
  none_given n i x e = absurd (some_places (some_given ps i x e) n)

  -- the stages of `m` hypotheses have no fault
  abbrev pub NoStageFault : ℕ → Ratio → Option DraftStages → Type 0
  NoStageFault m alpha o = (s : DraftStages) → o ≡ Some s → (long_stage_part s ≡ None) × (stages_fault m alpha s ≡ None)

  pub inputs_agree : (m : ℕ) (alpha : Ratio) (o : Option DraftStages) → option_map_or (λ s. list_all (arrives_among m) s.arrivals) o true ≡ true
      → ((s : DraftStages) → o ≡ Some s → length ps ≡ 0) → (length ps ≡ 0) ⊎ (length ps ≡ m) → AllOrNone
      → (GivenPass is_p_value ps × NoStageFault m alpha o) ↔ AreValidInputs m alpha (inputs_of o ps)
  inputs_agree m alpha None known unmixed count all =
      let a = single_agrees m alpha count all in
      (λ h. a.0 h.0, λ v. (a.1 v, λ s e. absurd (let q : Path (Option DraftStages) None (Some s) = e in cc)))
  inputs_agree m alpha (Some s) known unmixed count all =
      let a = stages_agree m alpha s known in (
        λ h. a.0 (h.1 s refl),
        λ v. (
          none_given (unmixed s refl),
          λ t e. let same : s ≡ t = let q : Path (Option DraftStages) (Some s) (Some t) = e in cc in
              subst (λ t. (long_stage_part t ≡ None) × (stages_fault m alpha t ≡ None)) same (a.1 v),
        ),
      )
