-- Where the closed form of a case's weights is short, the ratios that a run writes are defined.
use Rattle.std.proofs.Common.{◌≡◌, sym, ap, ◌∙◌, subst, ℕ, suc, ◌<◌, ◌*◌, ◌^◌, Bool, true, List, length, pos, Ok}
use Rattle.field_core.specs.Number.{Number}
use Rattle.field_core.specs.NumberField.{number_field}
use Rattle.field_core.specs.Fractions.{fraction}
use Rattle.field_core.specs.Graph.{Graph}
use Rattle.field_core.specs.Limit.{limit}
use Rattle.field_core.specs.Sets.{IsIn, whole}
use Rattle.field_core.specs.Runs.{IsOrder, left_after}
use Rattle.field_core.specs.View.{terms}
use Rattle.field_core.specs.Laws.LimitLaws.{limit-fraction}
use Rattle.field_core.specs.declared.place.Op.TheVariants.{Div}
use Rattle.field_core.specs.declared.ratio.Ratio.{Ratio}
use Rattle.field_core.proofs.Agreement.{Agrees}
use Rattle.field_core.proofs.ClosedForms.{IsClosedForm}
use Rattle.field_core.proofs.UnitLimits.{suc_not_zero}
use Rattle.fraction.specs.Within.{IsWithin}
use Rattle.fraction.proofs.ShortTerms.{operation_within}
use Rattle.fraction.proofs.ShortNumbers.{IsNumberWithin, lowest_within}
use Rattle.case_model.specs.Content.{Content, entangled}
use Rattle.case_model.specs.Draft.{ArePValues, is_p_value}
use Rattle.case_model.specs.Sums.{number, ratio_at}
use Rattle.case_model.specs.TextbookGraphs.{IsAlone}
use Rattle.case_model.specs.Validity.{IsValidContent}
use Rattle.case_model.proofs.AloneGraphs.{left_intersection}
use Rattle.case_model.proofs.Holding.{all_at}
use Rattle.case_model.proofs.IntersectionLaws.{intersection_unique}
use Rattle.case_model.proofs.Thresholds.{p_short}
use Rattle.case_model.proofs.ValidContents.{valid_content}
use Rattle.entangled.specs.CaseRun.{CaseState, case_level}
use Rattle.entangled.specs.CaseAfter.{case_after}
use Rattle.entangled.proofs.CaseLevels.{case_levels, case_live, case_lowest}
use Rattle.sequential.specs.WideDecisions.{AreDefinedBelow, written_ratio}

p_within : (x : Ratio) → is_p_value x ≡ true → IsWithin (10 ^ 30) (terms x)
p_within x h = let s = p_short x h in record { num = s.num; den = s.den }

p_value_in : (m : ℕ) (ps : List Ratio) → ArePValues m ps → (k : ℕ) → k < length ps → is_p_value (ratio_at ps k) ≡ true
unfolding ratio_at
p_value_in m ps P k h = all_at is_p_value ps k _ P.each h

-- a fraction is its own limit
limit_is : (w : ℕ) (x : Number) (s : IsNumberWithin w x) → limit x ≡ fraction (pos s.over) (pos (suc s.under))
limit_is w x s = ap limit s.is ∙ limit-fraction (pos s.over) (pos (suc s.under)) (suc_not_zero s.under)

module _ (c : Content) (V : IsValidContent c) (G : Graph Number) (A : IsAlone G (entangled c)) (left : (ℕ → Bool) → Graph Number)
    (C : IsClosedForm number_field (length c.names) left) (start : Agrees (length c.names) whole G (left whole)) (w : ℕ) (small : 10 ^ 30 * w < 2 ^ 127)
    (short_weight : (I : ℕ → Bool) (l : ℕ) → IsIn (length c.names) I l → IsNumberWithin w ((left I).weight l)) where
  module _ (js : List ℕ) (s : CaseState) (o : IsOrder (length c.names) whole js) (h : case_after c js ≡ Ok s) where
    level_within : (k : ℕ) → IsIn (length c.names) (left_after whole js) k → IsWithin w (case_level s k)
    unfolding entangled
    level_within k i =
        let I = left_after whole js in
        let short = short_weight I k i in
        let same : number (case_level s k) ≡ limit ((left I).weight k) =
        intersection_unique (entangled c) I k _ _ (case_levels c js s k V o h i)
        (left_intersection (entangled c) (valid_content c V) G A left C start I k i) in
        lowest_within w short.over short.under (case_level s k) (case_lowest c js s k V o h)
        (same ∙ limit_is w ((left I).weight k) short) short.over_within short.under_within

    pub ratios_defined : (ps : List Ratio) → ArePValues (length c.names) ps → AreDefinedBelow (length ps) ps s
    unfolding written_ratio
    ratios_defined ps P k b H =
        let below : k < length c.names = subst (λ n. k < n) P.count b in
        let i : IsIn (length c.names) (left_after whole js) k = record { below = below; member = sym (case_live c js s k V o h below) ∙ H.live } in
        let q = operation_within Div (terms (ratio_at ps k)) (case_level s k) (10 ^ 30) w (p_within (ratio_at ps k) (p_value_in (length c.names) ps P k b))
        (level_within k i) small in
        (q.0, q.1)
