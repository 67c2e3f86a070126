use Rattle.std.proofs.Common.{◌≡◌, ◌∙◌, sym, arith, pos, ◌*ℤ◌}
use Rattle.std.proofs.lemmas.Int.{ints}
use Rattle.field_core.specs.Polynomial.{coefficient}
use Rattle.field_core.proofs.Sized.{sized_small}
use Rattle.field_core.proofs.Wholes.{is_zero_true}
use Rattle.eps_poly.proofs.products.product_at.Goals as goal
use Rattle.eps_poly.proofs.products.product_at.Goals.{then-is_zero-via-then-is_zero, then-is_zero-via-else-is_zero+then-is_zero-2}

pub returns-then-is_zero : goal.returns-then-is_zero
returns-then-is_zero c =
    let none : coefficient c.args.p.now c.args.first *ℤ coefficient c.args.q.now c.args.second ≡ pos 0 = elim c.then-is_zero.branch [
      | then-is_zero-via-then-is_zero w ↦ rw (← c.whole-left.ensures, is_zero_true c.whole-left.result (sym c.is_zero.ensures ∙ w.if-is_zero.true))
          (omega (arith, ints))
      | then-is_zero-via-else-is_zero+then-is_zero-2 w ↦ rw
          (← c.whole-right.ensures, is_zero_true c.whole-right.result (sym w.is_zero-else-is_zero.ensures ∙ w.if-is_zero-2.true)) (omega (arith, ints))
    ] in
    rw (none, c.new.ensures) (sym (sized_small (pos 0) (omega (arith, ints))))
