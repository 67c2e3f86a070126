-- From the choices by the present state to those of the priorities.
use Rattle.std.proofs.Common.{◌≡◌, refl, sym, ap, ap₂, ◌∙◌, subst, ℕ, ◌<◌, true, length, Option, Some, None, MatchOption}
use Rattle.std.specs.Option.{option_map}
use Rattle.field_core.specs.Terms.{Terms, IsReduced}
use Rattle.field_core.specs.View.{terms}
use Rattle.field_core.specs.Number.{Number}
use Rattle.field_core.specs.Arithmetic.{◌/ε◌}
use Rattle.field_core.specs.Order.{◌≤ε◌, IsPositive}
use Rattle.field_core.specs.Laws.AtMostLaws.{at_most_equal}
use Rattle.field_core.specs.declared.place.Op.TheVariants.{Div}
use Rattle.fraction.specs.Plain.{single as single_parts}
use Rattle.fraction.specs.Laws.PlainLaws.{plain_is_exact}
use Rattle.case_model.specs.Sums.{number, number_at, ratio_at}
use Rattle.case_model.specs.Content.{Content, entangled}
use Rattle.case_model.specs.LegalOrder.{IsRatio, IsLeastRatio}
use Rattle.case_model.proofs.ExactSums.{value_single, stored_single}
use Rattle.case_model.proofs.IntersectionLaws.{intersection_unique}
use Rattle.case_model.proofs.PriorityOrders.{least_unique, ratio_unique}
use Rattle.entangled.specs.CaseRun.{is_live_in_case, case_level}
use Rattle.sequential.specs.Trials.{TrialContent, IsTrialOf, IsLegalNow, remaining}
use Rattle.sequential.specs.WideDecisions.{HasWrittenRatio, IsWrittenRatio, AreDefinedBelow, written_ratio}
use Rattle.sequential.specs.Choices.{MayRejectNone, IsFirstToReject, IsLastToReject, HasLeastRatioBelow, IsChoice, IsLegalChoice, no_ratio, not_legal}
use Rattle.sequential.specs.declared.candidate.Candidate.{Candidate}
use Rattle.sequential.specs.declared.priority.Priority.TheVariants.{First, Last, Ratio}
use Rattle.entangled.proofs.CaseLevels.{case_lowest}
use Rattle.sequential.proofs.RatioFacts.{level_divides}
use Rattle.sequential.proofs.TrialFacts.{may_legal, legal_may, weight_now, remains_in, p_values_are, live_now, distinct}

module _ (c : Content) (t : TrialContent) (T : IsTrialOf c t) where
  -- ---- first and last

  pub first_choice : (o : Option ℕ) → MatchOption o (MayRejectNone t) (IsFirstToReject t) → IsChoice c t First o
  first_choice None none = λ k f. none k (legal_may c t T k f.allowed)
  first_choice (Some j) f = record { allowed = may_legal c t T j f.allowed; least = λ k h l. f.least k h (legal_may c t T k l) }

  pub last_choice : (o : Option ℕ) → MatchOption o (MayRejectNone t) (IsLastToReject t) → IsChoice c t Last o
  last_choice None none = λ k f. none k (legal_may c t T k f.allowed)
  last_choice (Some j) f = record { allowed = may_legal c t T j f.allowed; greatest = λ k h l. f.greatest k h (legal_may c t T k l) }

  -- ---- ratios

  level_lowest : (k : ℕ) → IsReduced (case_level t.state k)
  level_lowest k = case_lowest c t.rejected t.state k T.valid (distinct c t T) T.state

  -- a written ratio is the ratio
  written_is_ratio : (k : ℕ) (q : Terms) → k < length t.p_values → IsWrittenRatio t.p_values t.state k q
      → IsRatio (entangled c) (number_at t.p_values) (remaining t) k (number q)
  unfolding written_ratio entangled
  written_is_ratio k q h Q =
      let p = remains_in c t T k h Q.written.live in
      let w = case_level t.state k in
      record {
        member = p;
        weight = number w;
        is_weight = weight_now c t T k p;
        positive = Q.written.positive;
        ratio =
            sym (value_single q)
            ∙ plain_is_exact.exact Div (single_parts (terms (ratio_at t.p_values k))) (single_parts w) (single_parts q)
            (stored_single _ (ratio_at t.p_values k).valid) (stored_single w (level_lowest k)) (level_divides w (level_lowest k) Q.written.positive)
            (ap (option_map single_parts) Q.quotient)
            ∙ ap₂ ◌/ε◌ (value_single (terms (ratio_at t.p_values k))) (value_single w);
      }

  -- a ratio is written, where it is defined
  ratio_is_written : AreDefinedBelow (length t.p_values) t.p_values t.state → (k : ℕ) (q : Number)
      → IsRatio (entangled c) (number_at t.p_values) (remaining t) k q → (r : Terms) × IsWrittenRatio t.p_values t.state k r × (number r ≡ q)
  unfolding entangled
  ratio_is_written defined k q R =
      let below : k < length t.p_values = subst (λ n. k < n) (sym (p_values_are c t T).count) R.member.below in
      let live : is_live_in_case t.state k ≡ true = live_now c t T k R.member.below ∙ R.member.member in
      let same : R.weight ≡ number (case_level t.state k) =
      intersection_unique (entangled c) (remaining t) k R.weight _ R.is_weight (weight_now c t T k (remains_in c t T k below live)) in
      let written : HasWrittenRatio t.state k = record { live = live; positive = subst IsPositive same R.positive } in
      let W = defined k below written in
      let Q : IsWrittenRatio t.p_values t.state k W.0 = record { written = written; quotient = W.1 } in
      (W.0, Q, ratio_unique (entangled c) (number_at t.p_values) (remaining t) k (number W.0) q (written_is_ratio k W.0 below Q) R)

  has_place : (k : ℕ) (q : Number) → IsRatio (entangled c) (number_at t.p_values) (remaining t) k q → k < length t.p_values
  unfolding entangled
  has_place k q R = subst (λ n. k < n) (sym (p_values_are c t T).count) R.member.below

  -- the least written ratio is the least ratio
  pub least_with : AreDefinedBelow (length t.p_values) t.p_values t.state → (j : ℕ) (q : Terms)
      → HasLeastRatioBelow (length t.p_values) t.p_values t.state j q → (L : IsLeastRatio (entangled c) (number_at t.p_values) (remaining t) j)
      × (L.ratio ≡ number q)
  least_with defined j q L = (
    record {
      ratio = number q;
      is_ratio = written_is_ratio j q L.below L.ratio;
      least = λ k r R. let W = ratio_is_written defined k r R in subst (λ x. number q ≤ε x) W.2 (L.least k W.0 (has_place k r R) W.1);
      first = λ k h R. let W = ratio_is_written defined k (number q) R in L.first k W.0 h W.1 (at_most_equal (number W.0) (number q) W.2);
    },
    refl,
  )

  -- the choice by the least ratio, where it is defined
  pub ratio_choice : (o : Option Candidate) → IsLegalChoice t o → AreDefinedBelow (length t.p_values) t.p_values t.state
      → IsChoice c t Ratio (option_map (λ x. x.hypothesis) o)
  ratio_choice (Some x) L defined = record { least = (least_with defined x.hypothesis (terms x.ratio) L.least).0; legal = may_legal c t T x.hypothesis L.legal }
  ratio_choice None none defined = λ k L. elim none [
    | no_ratio n ↦ n k (has_place k L.least.ratio L.least.is_ratio) (ratio_is_written defined k L.least.ratio L.least.is_ratio).1.written
    | not_legal j q M n ↦
        let e : k ≡ j = least_unique (entangled c) (number_at t.p_values) (remaining t) k j L.least (least_with defined j q M).0 in
        n (legal_may c t T j (subst (IsLegalNow c t) e L.legal))
  ]
