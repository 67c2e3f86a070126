-- The check of a step, and that of a keep, step by step.
use Rattle.std.proofs.Common.{◌≡◌, ◌↔◌, refl, sym, ap, ◌∙◌, ℕ, Bool, true, false, not, List, [], ◌∷◌, length, Result, Ok, Err}
use Rattle.std.proofs.Common.{◌==◌, ◌||◌, arith}
use Rattle.std.proofs.lemmas.Bool.Decides.{nat_tests}
use Rattle.std.specs.Prelude.{IsTrue}
use Rattle.std.specs.List.{list_any}
use Rattle.std.specs.Ordering.{is_gt, int_cmp}
use Rattle.std.specs.Prelude.{◌*ℤ◌}
use Rattle.field_core.specs.Kind.{Parts, Kind}
use Rattle.field_core.specs.Exact.{value_of}
use Rattle.field_core.specs.Sets.{set_of}
use Rattle.field_core.specs.Steps.{◌>>=◌}
use Rattle.field_core.specs.View.{terms}
use Rattle.field_core.specs.Arithmetic.{number_zero}
use Rattle.field_core.specs.declared.ratio.Ratio.{Ratio}
use Rattle.fraction.specs.Plain.{plain, fraction_parts}
use Rattle.fraction.specs.View.{number_of}
use Rattle.case_model.specs.Content.{Content}
use Rattle.case_model.specs.Draft.{at_most}
use Rattle.case_model.specs.Sums.{number_at}
use Rattle.case_model.specs.ClosedTest.{Passes}
use Rattle.case_model.specs.TextbookRules.{does_pass}
use Rattle.case_model.proofs.Comparisons.{above_zero_is}
use Rattle.case_model.proofs.ExactSums.{value_single}
use Rattle.case_model.proofs.PassTests.{pass_tested, tested_pass}
use Rattle.case_numbers.specs.Numbers.{Numbers}
use Rattle.evidence_check.specs.EvidenceParts.{StepParts, KeepParts, part_at}
use Rattle.evidence_check.specs.EvidenceView.{hypotheses_of}
use Rattle.evidence_check.specs.declared.evidence.ProofStep.{ProofStep}
use Rattle.evidence_check.specs.declared.event.CheckEvent.{CheckEvent}
use Rattle.evidence_check.specs.declared.verdict.Reason.TheVariants.{Repeated, NoLevel, AboveLevel, Legal}
use Rattle.evidence_check.specs.CheckSteps.{require, all_below}
use Rattle.evidence_check.specs.WrittenCheck.{Loaded, is_above_zero, level_by, flow_check, level_limit, step_check, exit_check, allowed_limit, keep_check}
use Rattle.evidence_check.specs.CaseCheck.{p_values_of, loaded_case}

-- ---- tests

same_number : (i j : ℕ) → (i == j) ≡ (j == i)
same_number i j = grind (arith, nat_tests)

pub listed_is : {F : Type 0} (steps : List (ProofStep F)) (j : ℕ) → list_any (λ s. s.hypothesis == j) steps ≡ set_of (hypotheses_of steps) j
listed_is [] j = refl
listed_is (s ∷ steps) j = ap (λ b. b || list_any (λ s. s.hypothesis == j) steps) (same_number s.hypothesis j)
    ∙ ap (λ b. (j == s.hypothesis) || b) (listed_is steps j)

pub above_is : (x z : Ratio) → fraction_parts z ≡ plain.zero
    → is_gt (int_cmp (x.num *ℤ z.den) (z.num *ℤ x.den)) ≡ is_above_zero (value_of (fraction_parts x))
unfolding is_above_zero
above_is x z e = above_zero_is x z e ∙ ap (λ v. not (at_most v number_zero)) (sym (value_single (terms x)))

same_test : (b d : Bool) → (b ≡ true → d ≡ true) → (d ≡ true → b ≡ true) → b ≡ d
same_test true d h k = sym (h refl)
same_test false true h k = k refl
same_test false false h k = refl

pub pass_is : (K : Kind) (n : Numbers) (c : Content) (k : ℕ) (level : Ratio) (b : Bool) (p a : Ratio) → number_of p ≡ number_at (p_values_of c.inputs) k
    → a ≡ c.alpha → IsTrue b ↔ Passes (number_of p) (number_of level) (number_of a)
    → b ≡ does_pass ((loaded_case K n c).p k) (value_of (fraction_parts level)) (loaded_case K n c).alpha
unfolding loaded_case
pass_is K n c k level b p a e f t =
    same_test b (does_pass (number_of p) (number_of level) (number_of a)) (λ h. pass_tested _ _ _ (t.0 h)) (λ h. t.1 (tested_pass _ _ _ h))
    ∙ ap (λ x. does_pass x (number_of level) (number_of a)) e
    ∙ ap (λ v. does_pass (number_at (p_values_of c.inputs) k) v (number_of a)) (sym (value_single (terms level)))
    ∙ ap (λ a. does_pass (number_at (p_values_of c.inputs) k) (value_of (fraction_parts level)) (number_of a)) f

-- ---- a step

module _ (K : Kind) (L : Loaded) (js : List ℕ) (s : StepParts) where
  abbrev pub all_flows : Result (Unit {0}) CheckEvent
  all_flows = all_below L.components (λ c. all_below (length js) (flow_check K L js (part_at K s.flows c) c))

  abbrev pub level_there : Result Parts CheckEvent
  level_there = level_by L s.hypothesis (λ c. level_limit K L js (part_at K s.flows c) s.hypothesis c)

  step_check_is : step_check K L js
      s ≡ (require (not (set_of js s.hypothesis)) Repeated >>= λ _. all_flows >>= λ _. level_there >>= λ level. require
      (is_above_zero (value_of level)) NoLevel >>= λ _. require (does_pass (L.p s.hypothesis) (value_of level) L.alpha) AboveLevel)
  unfolding step_check
  step_check_is = refl

  pub repeated : (e : CheckEvent) → require (not (set_of js s.hypothesis)) Repeated ≡ Err e → step_check K L js s ≡ Err e
  repeated e h = rw (step_check_is, h) refl

  -- a step that is checked is of another hypothesis
  pub step_new : (u : Unit {0}) → step_check K L js s ≡ Ok u → require (not (set_of js s.hypothesis)) Repeated ≡ Ok tt
  step_new u h = go (require (not (set_of js s.hypothesis)) Repeated) refl
    where
      go : (r : Result (Unit {0}) CheckEvent) → require (not (set_of js s.hypothesis)) Repeated ≡ r
          → require (not (set_of js s.hypothesis)) Repeated ≡ Ok tt
      go (Ok v) d = d
      go (Err e) d = absurd (let g = sym (repeated e d) ∙ h in cc)

  module _ (u : Unit {0}) (d : require (not (set_of js s.hypothesis)) Repeated ≡ Ok u) where
    pub flows_refused : (e : CheckEvent) → all_flows ≡ Err e → step_check K L js s ≡ Err e
    flows_refused e h = rw (step_check_is, d, h) refl

    module _ (w : Unit {0}) (f : all_flows ≡ Ok w) where
      pub level_refused : (e : CheckEvent) → level_there ≡ Err e → step_check K L js s ≡ Err e
      level_refused e h = rw (step_check_is, d, f, h) refl

      module _ (level : Parts) (l : level_there ≡ Ok level) where
        pub no_level : (e : CheckEvent) → require (is_above_zero (value_of level)) NoLevel ≡ Err e → step_check K L js s ≡ Err e
        no_level e h = rw (step_check_is, d, f, l, h) refl

        pub step_done : (v : Unit {0}) → require (is_above_zero (value_of level)) NoLevel ≡ Ok v
            → step_check K L js s ≡ require (does_pass (L.p s.hypothesis) (value_of level) L.alpha) AboveLevel
        step_done v h = rw (step_check_is, d, f, l, h) refl

-- ---- a keep

module _ (K : Kind) (L : Loaded) (js : List ℕ) (x : KeepParts) where
  abbrev pub all_exits : Result (Unit {0}) CheckEvent
  all_exits = all_below L.components (λ c. all_below (length js) (exit_check K L js (part_at K x.exits c) x.hypothesis c))

  abbrev pub level_kept : Result Parts CheckEvent
  level_kept = level_by L x.hypothesis (λ c. allowed_limit K L js (part_at K x.exits c) x.hypothesis c)

  keep_check_is : keep_check K L js
      x ≡ (all_exits >>= λ _. level_kept >>= λ level. require (not (does_pass (L.p x.hypothesis) (value_of level) L.alpha)) Legal)
  unfolding keep_check
  keep_check_is = refl

  pub exits_refused : (e : CheckEvent) → all_exits ≡ Err e → keep_check K L js x ≡ Err e
  exits_refused e h = rw (keep_check_is, h) refl

  module _ (w : Unit {0}) (f : all_exits ≡ Ok w) where
    pub kept_refused : (e : CheckEvent) → level_kept ≡ Err e → keep_check K L js x ≡ Err e
    kept_refused e h = rw (keep_check_is, f, h) refl

    pub keep_done : (level : Parts) → level_kept ≡ Ok level
        → keep_check K L js x ≡ require (not (does_pass (L.p x.hypothesis) (value_of level) L.alpha)) Legal
    keep_done level l = rw (keep_check_is, f, l) refl
