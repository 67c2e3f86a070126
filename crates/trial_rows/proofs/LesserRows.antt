-- Where the doubles of a row fall, its marks stay.
use Rattle.std.proofs.Common.{◌≡◌, inl, inr, sym, ap, ◌∙◌, ℕ, ◌<◌, ◌≤◌, arith, List, length, Some}
use Rattle.std.proofs.lemmas.Bool.{cases_lt}
use Rattle.std.proofs.lemmas.List.{get_or_past}
use Rattle.field_core.specs.declared.ratio.Ratio.{Ratio}
use Rattle.field_core.specs.Order.{◌≤ε◌}
use Rattle.field_core.specs.Laws.AtMostLaws.{at_most_equal}
use Rattle.fraction.specs.View.{number_of}
use Rattle.case_model.specs.Content.{Content, IsRejectedIn, entangled}
use Rattle.case_model.proofs.ClosedTestLaws.{rejected_below}
use Rattle.case_model.specs.Sums.{ratio_at, number_at, zero_ratio}
use Rattle.sequential.specs.OtherPValues.{with_p}
use Rattle.typed_numbers.proofs.ByTheRules.{by_the_rules}
use Rattle.typed_numbers.proofs.Ordered.{keep_order}
use Rattle.trial_rows.specs.Rows.{AreReadings, IsMark, IsRowTested, decided, unread, wide}
use Rattle.trial_rows.specs.LesserRows.{AreLesser, MarksStayWhereDoublesFall}

past_end : (ps : List Ratio) (k : ℕ) → length ps ≤ k → ratio_at ps k ≡ zero_ratio
unfolding ratio_at
past_end ps k h = get_or_past ps k zero_ratio h

readings_fall : (m : ℕ) (doubles lesser : ℕ → ℕ) (ps qs : List Ratio) → AreLesser m lesser doubles → AreReadings m doubles ps → AreReadings m lesser qs
    → (k : ℕ) → number_at qs k ≤ε number_at ps k
readings_fall m doubles lesser ps qs less P Q k = elim (cases_lt k m) [
  | inl h ↦ keep_order (lesser k) (doubles k) (ratio_at qs k) (ratio_at ps k)
      ((by_the_rules (lesser k) (Some (ratio_at qs k))).0 (Q.each k h)) ((by_the_rules (doubles k) (Some (ratio_at ps k))).0 (P.each k h)) (less k h)
  | inr h ↦ at_most_equal _ _ (ap number_of (past_end qs k (omega (arith, Q.count, h)) ∙ sym (past_end ps k (omega (arith, P.count, h)))))
]

rejections_stay : (c : Content) (ps qs : List Ratio) (j : ℕ) → ((k : ℕ) → number_at qs k ≤ε number_at ps k) → IsRejectedIn (with_p c ps) j
    → IsRejectedIn (with_p c qs) j
unfolding entangled
rejections_stay c ps qs j below = rejected_below _ _ _ _ below j

-- a mark of 1 is of a fact, and where the fact holds the mark is 1
is_marked : (P : Type 0) (mark : ℕ) → IsMark P mark → mark ≡ 1 → P
is_marked P mark (inl h) e = h.0
is_marked P mark (inr h) e = absurd (let f : mark ≡ 0 = h.1 in omega (arith, e, f))

marked : (P : Type 0) (mark : ℕ) → IsMark P mark → P → mark ≡ 1
marked P mark (inl h) p = h.1
marked P mark (inr h) p = absurd (h.0 p)

-- what a decided row holds
record Decided (c : Content) (doubles marks : ℕ → ℕ) : Type 0 where
  p_values : List Ratio
  readings : AreReadings (length c.names) doubles p_values
  marks_are : (j : ℕ) → j < length c.names → IsMark (IsRejectedIn (with_p c p_values) j) (marks j)

decided_row : (c : Content) (doubles marks : ℕ → ℕ) (status : ℕ) → status ≡ 0 → IsRowTested c doubles marks status → Decided c doubles marks
decided_row c doubles marks status z (decided e ps R defined M) = record { p_values = ps; readings = R; marks_are = M }
decided_row c doubles marks status z (unread e U N) = absurd (omega (arith, z, e))
decided_row c doubles marks status z (wide e ps R step at W N) = absurd (omega (arith, z, e))

pub marks_stay : MarksStayWhereDoublesFall
marks_stay c doubles lesser marks others less row other j p e =
    let r = decided_row c doubles marks 0 (omega arith) row in
    let s = decided_row c lesser others 0 (omega arith) other in
    marked _ (others j) (s.marks_are j p)
    (rejections_stay c r.p_values s.p_values j (readings_fall (length c.names) doubles lesser r.p_values s.p_values less r.readings s.readings)
    (is_marked _ (marks j) (r.marks_are j p) e))
