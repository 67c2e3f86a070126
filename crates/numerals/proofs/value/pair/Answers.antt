use Rattle.std.proofs.Common.{◌<◌, ◌∙◌, length, sym, inl, inr, arith}
use Rattle.std.proofs.lemmas.Bool.{eqb-true, eqb-false}
use Rattle.numerals.proofs.Cut.{digits_without}
use Rattle.numerals.proofs.DigitNumbers.{power_small}
use Rattle.numerals.proofs.Bodies.{pair_zero, pair_long, pair_ok, pair_some}
use Rattle.numerals.proofs.value.pair.Goals as goal
use Rattle.numerals.proofs.value.pair.Goals.{then-over-gt-MOST_DIGITS-via-then-over-gt-MOST_DIGITS}
use Rattle.numerals.proofs.value.pair.Goals.{then-over-gt-MOST_DIGITS-via-else-over-gt-MOST_DIGITS+then-under-gt-MOST_DIGITS}

pub returns-then-is_empty : goal.returns-then-is_empty
returns-then-is_empty c = pair_zero c.args.over.now c.args.under.now _ c.without_leading_zeros-under.ensures
    (eqb-true _ 0 (sym c.is_empty.ensures ∙ c.if-is_empty.true))

pub returns-then-over-gt-MOST_DIGITS : goal.returns-then-over-gt-MOST_DIGITS
returns-then-over-gt-MOST_DIGITS c =
    let some : 0 < length c.without_leading_zeros-under.result.now = omega (arith, eqb-false _ 0 (sym c.is_empty.ensures ∙ c.if-is_empty.false)) in
    let long = pair_long c.args.over.now c.args.under.now _ _ c.without_leading_zeros-over.ensures c.without_leading_zeros-under.ensures c.requires.under
    some in
    elim c.then-over-gt-MOST_DIGITS.branch [
      | then-over-gt-MOST_DIGITS-via-then-over-gt-MOST_DIGITS w ↦ long (inl w.if-over-gt-MOST_DIGITS.true)
      | then-over-gt-MOST_DIGITS-via-else-over-gt-MOST_DIGITS+then-under-gt-MOST_DIGITS w ↦ long (inr w.if-under-gt-MOST_DIGITS.true)
    ]

pub number-requires-clause-digits : goal.number-requires-clause-digits
number-requires-clause-digits c = rw c.without_leading_zeros-over.ensures (digits_without c.args.over.now c.requires.over)

pub number-requires-2-clause-digits : goal.number-requires-2-clause-digits
number-requires-2-clause-digits c = rw c.without_leading_zeros-under.ensures (digits_without c.args.under.now c.requires.under)

pub invariant_of-result : goal.invariant_of-result
invariant_of-result c =
    let some : 0 < length c.without_leading_zeros-under.result.now = omega (arith, eqb-false _ 0 (sym c.is_empty.ensures ∙ c.if-is_empty.false)) in
    record {
      some = pair_some c.args.under.now _ _ c.without_leading_zeros-under.ensures c.requires.under some c.number-2.ensures.value;
      num_size = omega (arith, c.number.ensures.below, power_small _ c.if-over-gt-MOST_DIGITS.false);
      den_size = omega (arith, c.number-2.ensures.below, power_small _ c.if-under-gt-MOST_DIGITS.false);
    }

pub returns : goal.returns
returns c =
    let some : 0 < length c.without_leading_zeros-under.result.now = omega (arith, eqb-false _ 0 (sym c.is_empty.ensures ∙ c.if-is_empty.false)) in
    pair_ok c.args.over.now c.args.under.now _ _ _ c.without_leading_zeros-over.ensures c.without_leading_zeros-under.ensures c.requires.under some
    c.if-over-gt-MOST_DIGITS.false c.if-under-gt-MOST_DIGITS.false c.number.ensures.value c.number-2.ensures.value
