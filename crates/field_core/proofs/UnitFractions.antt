-- The fractions 1/r.
use Rattle.std.proofs.Common.{◌≡◌, sym, ap, ◌∙◌, ℕ, suc, arith, pos, ◌+ℤ◌, ◌*ℤ◌}
use Rattle.std.proofs.lemmas.Int.{ints}
use Rattle.field_core.specs.Arithmetic.{number_one, ◌+ε◌, ◌*ε◌}
use Rattle.field_core.specs.Order.{IsPositive}
use Rattle.field_core.specs.Fractions.{fraction, one_over}
use Rattle.field_core.specs.NumberField.{number_field}
use Rattle.field_core.specs.Limit.{limit}
use Rattle.field_core.specs.Laws.AtMostLaws.{positive-at_least_zero, positive-nonzero}
use Rattle.field_core.specs.Laws.FractionLaws.{fraction-add, fraction-multiply, fraction-equal, fraction-sign}
use Rattle.field_core.specs.Laws.LimitLaws.{limit-fraction}
use Rattle.field_core.specs.Laws.PolynomialLaws.{positive_in}
use Rattle.field_core.specs.Laws.Effective.{product_positive}
use Rattle.field_core.proofs.UnitLimits.{suc_not_zero, one_is}
use Rattle.field_core.proofs.EqualShares.{AreParts, next_part}

pub times_count : (n : ℕ) → one_over (suc n) *ε fraction (pos (suc n)) (pos 1) ≡ number_one
times_count n =
    fraction-multiply (pos 1) (pos (suc n)) (pos (suc n)) (pos 1) (suc_not_zero n) (suc_not_zero 0)
    ∙ fraction-equal (pos 1 *ℤ pos (suc n)) (pos (suc n) *ℤ pos 1) (pos 1) (pos 1) (λ e. absurd (omega (arith, ints, e))) (suc_not_zero 0)
    (omega (arith, ints)) ∙ sym one_is

pub next_count : (n : ℕ) → fraction (pos (suc n)) (pos 1) ≡ fraction (pos n) (pos 1) +ε number_one
next_count n =
    sym (ap (λ z. fraction (pos n) (pos 1) +ε z) one_is ∙ fraction-add (pos n) (pos 1) (pos 1) (pos 1) (suc_not_zero 0) (suc_not_zero 0)
    ∙ fraction-equal (pos n *ℤ pos 1 +ℤ pos 1 *ℤ pos 1) (pos 1 *ℤ pos 1) (pos (suc n)) (pos 1) (λ e. absurd (omega (arith, ints, e)))
    (suc_not_zero 0) (omega (arith, ints)))

pub one_over_positive : (n : ℕ) → IsPositive (one_over (suc n))
one_over_positive n = fraction-sign (pos 1) (pos (suc n)) (suc_not_zero n)
    ∙ positive_in _ (product_positive (pos 1) (pos (suc n)) (omega (arith, ints)) (omega (arith, ints)))

pub one_over_plain : (n : ℕ) → limit (one_over (suc n)) ≡ one_over (suc n)
one_over_plain n = limit-fraction (pos 1) (pos (suc n)) (suc_not_zero n)

pub one_over_parts : AreParts number_field one_over
unfolding number_field
one_over_parts = record {
  low = λ n. positive-at_least_zero (one_over (suc n)) (one_over_positive n);
  nonzero = λ n. positive-nonzero (one_over (suc n)) (one_over_positive n);
  next = λ n. next_part number_field (one_over (suc (suc n))) (one_over (suc n)) (fraction (pos (suc n)) (pos 1))
      (ap (λ z. one_over (suc (suc n)) *ε z) (sym (next_count (suc n))) ∙ times_count (suc n)) (times_count n);
}
