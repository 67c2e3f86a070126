use Rattle.std.proofs.Common.{◌*◌, ◌-◌, ap, ap₂, refl, arith}
use Rattle.numerals.proofs.DigitNumbers.{power_small, power_some}
use Rattle.numerals.proofs.Scaling.{limits, inside_limit, raised_small, raised, lowered, scaled_ok, scaled_fault}
use Rattle.numerals.proofs.decimal.scaled.Goals as goal

pub returns-then-passes_limit : goal.returns-then-passes_limit
returns-then-passes_limit c = scaled_fault c.args.len _ _ (c.passes_limit.ensures.0 c.if-passes_limit.true)

pub overflow_mul-result : goal.overflow_mul-result
overflow_mul-result c =
    let l = limits c.args.len c.args.up c.args.down c.passes_limit.result c.if-passes_limit.false c.passes_limit.ensures.1 in
    record {
      fits = omega (
        arith,
        raised_small c.number-number.result c.args.len (c.args.up - c.args.down) c.number-number.ensures.below (omega (arith, l.1.1)),
        ap (λ n. c.number-number.result * n) c.power.ensures,
      );
    }

pub invariant_of-result : goal.invariant_of-result
invariant_of-result c =
    let l = limits c.args.len c.args.up c.args.down c.passes_limit.result c.if-passes_limit.false c.passes_limit.ensures.1 in
    record {
      some = omega arith;
      num_size = omega (
        arith,
        raised_small c.number-number.result c.args.len (c.args.up - c.args.down) c.number-number.ensures.below (omega (arith, l.1.1)),
        ap (λ n. c.number-number.result * n) c.power.ensures,
      );
      den_size = omega arith;
    }

pub invariant_of-result-else-up-down : goal.invariant_of-result-else-up-down
invariant_of-result-else-up-down c =
    let l = limits c.args.len c.args.up c.args.down c.passes_limit.result c.if-passes_limit.false c.passes_limit.ensures.1 in
    record {
      some = omega (arith, c.power-else-up-down.ensures, power_some (c.args.down - c.args.up));
      num_size = omega (arith, c.number-number.ensures.below, power_small c.args.len l.0);
      den_size = omega (arith, c.power-else-up-down.ensures, power_small (c.args.down - c.args.up) (omega (arith, l.1.0)));
    }

pub returns-then-up-down : goal.returns-then-up-down
returns-then-up-down c =
    let l = limits c.args.len c.args.up c.args.down c.passes_limit.result c.if-passes_limit.false c.passes_limit.ensures.1 in
    scaled_ok c.args.len _ _ _ (inside_limit c.args.len c.args.up c.args.down l.0 l.1.0 l.1.1)
    (raised _ c.args.up c.args.down _ _ c.if-up-down.true (ap₂ ◌*◌ c.number-number.ensures.value c.power.ensures) refl)

pub returns-else-up-down : goal.returns-else-up-down
returns-else-up-down c =
    let l = limits c.args.len c.args.up c.args.down c.passes_limit.result c.if-passes_limit.false c.passes_limit.ensures.1 in
    scaled_ok c.args.len _ _ _ (inside_limit c.args.len c.args.up c.args.down l.0 l.1.0 l.1.1)
    (lowered _ c.args.up c.args.down _ _ c.if-up-down.false c.number-number.ensures.value c.power-else-up-down.ensures)
