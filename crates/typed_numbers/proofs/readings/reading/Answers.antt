use Rattle.typed_numbers.proofs.Answers.{readable, not_readable, num_fits, den_fits, fraction_read}
use Rattle.std.proofs.Common.{◌∙◌}
use Rattle.typed_numbers.proofs.readings.reading.Goals as goal

pub returns-then-bits-ne-MINUS_ZERO : goal.returns-then-bits-ne-MINUS_ZERO
returns-then-bits-ne-MINUS_ZERO c = record { result = not_readable c.args.bits c.if-bits-gt-ONE.true c.if-bits-ne-MINUS_ZERO.true }

pub overflow_cast-num : goal.overflow_cast-num
overflow_cast-num c = num_fits c.args.bits c.parts-num.result.0 c.parts-num.result.1 (readable c.args.bits c.else-bits-gt-ONE.either) c.parts-num.ensures

pub overflow_cast-den : goal.overflow_cast-den
overflow_cast-den c = den_fits c.args.bits c.parts-num.result.0 c.parts-num.result.1 (readable c.args.bits c.else-bits-gt-ONE.either) c.parts-num.ensures

pub returns : goal.returns
returns c =
    let h = c.new.ensures in
    record {
      result = c.ok.ensures.value
          ∙ fraction_read c.args.bits c.parts-num.result.0 c.parts-num.result.1 c.new.result (readable c.args.bits c.else-bits-gt-ONE.either)
          c.parts-num.ensures h.lowest h.zero.0 h.wide.0;
    }
