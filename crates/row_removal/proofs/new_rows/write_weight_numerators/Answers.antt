use Rattle.std.proofs.Common.{◌≡◌, arith, rules, Err}
use Rattle.field_core.proofs.Fills.{filled_until}
use Rattle.row_removal.proofs.new_rows.write_weight_numerators.Goals as goal

pub returns-in_err-write_weight : goal.returns-in_err-write_weight
returns-in_err-write_weight c =
    let e : c.from_residual.result ≡ Err c.in_err-write_weight.field-0.0 = search rules in
    filled_until _ _ c.loop-l.l c.loop-l.next _ _ _ e (omega (arith, c.loop-l-test.true)) (omega arith) c.loop-l.invariant.0 c.in_err-write_weight.ensures
