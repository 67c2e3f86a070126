use Rattle.std.proofs.Common.{◌≡◌, arith, rules, Err}
use Rattle.field_core.proofs.Fills.{filled_until}
use Rattle.row_removal.proofs.new_rows.write_numerators.Goals as goal

pub returns-in_err-write_numerator : goal.returns-in_err-write_numerator
returns-in_err-write_numerator c =
    let e : c.from_residual.result ≡ Err c.in_err-write_numerator.field-0.0 = search rules in
    filled_until _ _ c.loop-k.k c.loop-k.next _ _ _ e (omega (arith, c.loop-k-test.true)) (omega arith) c.loop-k.invariant.0 c.in_err-write_numerator.ensures
