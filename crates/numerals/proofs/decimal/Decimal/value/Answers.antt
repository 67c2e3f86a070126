use Rattle.std.proofs.Common.{◌<◌, ◌∙◌, ◌^◌, rules, length, refl, sym, arith}
use Rattle.numerals.proofs.Cut.{digits_without}
use Rattle.numerals.proofs.Zeros.{trailing_le}
use Rattle.numerals.proofs.Scaling.{gives_zero, gives_scaled}
use Rattle.numerals.specs.Sizes.{digits_in}
use Rattle.numerals.proofs.decimal.Decimal.value.Goals as goal

pub returns-then-len-eq0 : goal.returns-then-len-eq0
returns-then-len-eq0 c = gives_zero c.args.self.now c.args.shift _ _ c.without_leading_zeros-digits.ensures (sym c.len.ensures.value ∙ c.if-len-eq0.true) refl

pub overflow_sub-len : goal.overflow_sub-len
overflow_sub-len c = omega (arith, c.trailing_zeros-zeros.ensures, c.len-2.ensures.value, trailing_le (digits_in c.without_leading_zeros-digits.result))

pub overflow_add-shift : goal.overflow_add-shift
overflow_add-shift c = record {
  fits =
      omega (
        arith,
        c.trailing_zeros-zeros.ensures,
        c.len-2.ensures.value,
        c.len-2.ensures.small,
        c.args.shift.near_up,
        trailing_le (digits_in c.without_leading_zeros-digits.result),
      );
}

pub scaled-requires-clause-digits : goal.scaled-requires-clause-digits
scaled-requires-clause-digits c = rw c.without_leading_zeros-digits.ensures (digits_without _ c.requires)

pub scaled-requires-clause-up : goal.scaled-requires-clause-up
scaled-requires-clause-up c =
    omega (
      arith,
      c.trailing_zeros-zeros.ensures,
      c.len-2.ensures.value,
      c.len-2.ensures.small,
      c.args.shift.near_up,
      trailing_le (digits_in c.without_leading_zeros-digits.result),
    )

pub returns : goal.returns
returns c =
    let behind : length c.args.self.now.fraction.now < 2 ^ 64 = search rules in
    let few : c.trailing_zeros-zeros.result < 2 ^ 65 =
    omega (
      arith,
      c.trailing_zeros-zeros.ensures,
      c.len-2.ensures.value,
      c.len-2.ensures.small,
      trailing_le (digits_in c.without_leading_zeros-digits.result),
    ) in
    let some : 0 < c.len-2.result = omega (arith, c.len.ensures.value, c.len-2.ensures.value) in
    gives_scaled c.args.self.now c.args.shift c.scaled.result _ c.len-2.result c.trailing_zeros-zeros.result c.without_leading_zeros-digits.ensures
    c.len-2.ensures.value c.trailing_zeros-zeros.ensures some behind few c.scaled.ensures
