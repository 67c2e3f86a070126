-- The laws of the adjusted values of cases.
use Rattle.std.proofs.Common.{◌≡◌, refl, sym, ap₂, ◌∙◌, subst, ℕ, zero, suc, ◌<◌, arith, Bool, ◌↔◌, List, [], ◌∷◌, length}
use Rattle.field_core.specs.Number.{Number}
use Rattle.field_core.specs.Arithmetic.{number_one}
use Rattle.field_core.specs.LimitParts.{IsUnit}
use Rattle.field_core.specs.declared.place.WideAt.{WideAt}
use Rattle.case_model.specs.EntangledGraph.{EntangledGraph}
use Rattle.case_model.specs.AdjustedValues.{IsAdjusted}
use Rattle.case_model.specs.CaseTests.{at_level}
use Rattle.case_model.specs.ClosedTest.{IsRejected}
use Rattle.case_model.specs.Content.{Content, ForSingle, entangled}
use Rattle.case_model.specs.LegalOrder.{IsLeastLegalRatio}
use Rattle.case_model.specs.Sums.{number_at, one_ratio}
use Rattle.case_model.proofs.AdjustedValues.{adjusted_is, adjusted_unique}
use Rattle.case_model.proofs.PriorityOrders.{ratio_legal, legal_at_most}
use Rattle.case_model.proofs.SingleInputs.{for_single, for_both}
use Rattle.sequential.specs.WideDecisions.{IsWideDecision}
use Rattle.sequential.specs.declared.priority.Priority.TheVariants.{Ratio as ByRatio}
use Rattle.sequential.proofs.OtherLevels.{opening_at}
use Rattle.sequential.proofs.WideLaws.{wide_unique}
use Rattle.adjusted_p.specs.declared.adjusted.Adjusted.{Adjusted}
use Rattle.adjusted_p.specs.AdjustedLists.{adjusted_at, AreAdjusted}
use Rattle.adjusted_p.specs.RatioRuns.{IsLeastToOne}
use Rattle.adjusted_p.specs.AdjustedListStatements.{IsReachedBy}
use Rattle.adjusted_p.specs.WrittenRun.{IsWideAdjusting}

-- ---- each level

pub values_decide : (c : Content) (xs : List Adjusted) (level : Number) (j : ℕ) → AreAdjusted c xs → IsUnit level → j < length c.names
    → ForSingle c.inputs (λ ps. IsRejected (entangled c) (number_at ps) level j ↔ IsReachedBy level (adjusted_at xs j))
values_decide c xs level j A u h =
    let x = adjusted_at xs j in
    for_single (λ ps. IsAdjusted (entangled c) (number_at ps) j x.value x.reached)
    (λ i. ForSingle i (λ ps. IsRejected (entangled c) (number_at ps) level j ↔ IsReachedBy level x))
    (λ ps a. ((adjusted_is (entangled c) (number_at ps) j x.value x.reached).0 a).1 level u) c.inputs (A.each j h)

-- ---- one list at most

same_lists : (xs ys : List Adjusted) → length xs ≡ length ys → ((j : ℕ) → j < length xs → adjusted_at xs j ≡ adjusted_at ys j) → xs ≡ ys
same_lists [] [] e h = refl
same_lists [] (y ∷ ys) e h = absurd (cc)
same_lists (x ∷ xs) [] e h = absurd (cc)
same_lists (x ∷ xs) (y ∷ ys) e h = ap₂ (λ b bs. b ∷ bs) (h 0 (omega arith)) (same_lists xs ys (cc) (λ j l. h (suc j) (omega (arith, l))))

same_value : (c : Content) (x y : Adjusted) (j : ℕ) → ForSingle c.inputs (λ ps. IsAdjusted (entangled c) (number_at ps) j x.value x.reached)
    → ForSingle c.inputs (λ ps. IsAdjusted (entangled c) (number_at ps) j y.value y.reached) → x ≡ y
same_value c x y j =
    for_both (λ ps. IsAdjusted (entangled c) (number_at ps) j x.value x.reached) (λ ps. IsAdjusted (entangled c) (number_at ps) j y.value y.reached) (x ≡ y)
    (λ ps a b. let e = adjusted_unique (entangled c) (number_at ps) j x.value y.value x.reached y.reached a b in ap₂
    (λ v r. record { value = v; reached = r }) e.0 e.1) c.inputs

pub lists_unique : (c : Content) (xs ys : List Adjusted) → AreAdjusted c xs → AreAdjusted c ys → xs ≡ ys
lists_unique c xs ys A B =
    same_lists xs ys (A.count ∙ sym B.count)
    (λ j h. let l = subst (λ n. j < n) A.count h in same_value c (adjusted_at xs j) (adjusted_at ys j) j (A.each j l) (B.each j l))

-- ---- the written run

wide_at_one : (c : Content) (n : ℕ) (w : WideAt) → IsWideAdjusting c n w → IsWideDecision (at_level c one_ratio) ByRatio n w
wide_at_one c zero w h = opening_at c one_ratio ∙ h
wide_at_one c (suc n) w h = h

pub wide_runs_unique : (c : Content) (m n : ℕ) (v w : WideAt) → IsWideAdjusting c m v → IsWideAdjusting c n w → (m ≡ n) × (v ≡ w)
wide_runs_unique c m n v w h k = wide_unique (at_level c one_ratio) ByRatio m n v w (wide_at_one c m v h) (wide_at_one c n w k)

pub legal_to_one : (E : EntangledGraph) (p : ℕ → Number) (I : ℕ → Bool) (j : ℕ) → IsLeastLegalRatio E p number_one I j ↔ IsLeastToOne E p I j
legal_to_one E p I j = (
  λ L. record { least = L.least; small = legal_at_most E p I number_one j L.least.ratio L.least.is_ratio L.legal },
  λ L. record { least = L.least; legal = ratio_legal E p I number_one j L.least.ratio L.least.is_ratio L.small },
)
