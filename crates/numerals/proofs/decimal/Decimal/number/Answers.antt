use Rattle.std.proofs.Common.{◌-◌, length, take, arith}
use Rattle.std.proofs.lemmas.List.{length-take}
use Rattle.numerals.proofs.Cut.{digits_before, digits_behind, digits_take, first_value, first_below}
use Rattle.numerals.proofs.DigitNumbers.{power_small, room_for}
use Rattle.numerals.proofs.decimal.Decimal.number.Goals as goal

pub extended-whole-requires-clause-digits : goal.extended-whole-requires-clause-digits
extended-whole-requires-clause-digits c = digits_take _ _ (digits_before _ c.args.self.now.fraction.now c.requires.digits)

pub extended-whole-requires-clause-room : goal.extended-whole-requires-clause-room
extended-whole-requires-clause-room c =
    omega (
      arith,
      power_small (length (take c.min-whole_len.result c.args.self.now.whole.now))
          (omega (arith, length-take c.min-whole_len.result c.args.self.now.whole.now)),
    )

pub extended-requires-clause-digits : goal.extended-requires-clause-digits
extended-requires-clause-digits c = digits_take _ _ (digits_behind c.args.self.now.whole.now _ c.requires.digits)

pub extended-requires-clause-room : goal.extended-requires-clause-room
extended-requires-clause-room c = room_for c.extended-whole.result (length (take c.min-whole_len.result c.args.self.now.whole.now)) _
    (omega (
      arith,
      length-take c.min-whole_len.result c.args.self.now.whole.now,
      length-take (c.args.len - c.min-whole_len.result) c.args.self.now.fraction.now,
    )) (omega (arith, c.extended-whole.ensures.below))

pub returns-clause-value : goal.returns-clause-value
returns-clause-value c = first_value c.args.len c.min-whole_len.result c.extended-whole.result _ _ _ c.min-whole_len.ensures c.extended-whole.ensures.value
    c.extended.ensures.value

pub returns-clause-below : goal.returns-clause-below
returns-clause-below c = first_below c.args.len c.extended.result _ c.requires.digits c.requires.within
    (first_value c.args.len c.min-whole_len.result c.extended-whole.result _ _ _ c.min-whole_len.ensures c.extended-whole.ensures.value
    c.extended.ensures.value)
