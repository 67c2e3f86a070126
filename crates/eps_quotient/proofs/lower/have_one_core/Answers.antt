use Rattle.std.proofs.Common.{◌∙◌, sym, ap, arith}
use Rattle.eps_poly.specs.Factors.{core}
use Rattle.eps_poly.proofs.Coefficients.{same_from, same_to}
use Rattle.eps_poly.proofs.DegreeLaws.{order_low}
use Rattle.eps_quotient.proofs.CoreTests.{cores_apart, cores_of_powers}
use Rattle.eps_quotient.proofs.lower.have_one_core.Goals as goal
use Rattle.eps_quotient.proofs.lower.have_one_core.Goals.{then-above-eq0-via-then-above-eq0, then-above-eq0-via-else-above-eq0+then-eq}

pub overflow_sub-above : goal.overflow_sub-above
overflow_sub-above c = let low = order_low c.args.a.now c.requires.a in omega arith

pub overflow_sub-below : goal.overflow_sub-below
overflow_sub-below c = let low = order_low c.args.b.now c.requires.b in omega arith

pub returns-then-above-below : goal.returns-then-above-below
returns-then-above-below c =
    sym (cores_apart c.args.a.now c.args.b.now c.degree.ensures.polynomial c.degree-2.ensures.polynomial c.requires.a c.requires.b
    (λ e. c.if-above-below.true (omega arith)))

pub returns-then-above-eq0 : goal.returns-then-above-eq0
returns-then-above-eq0 c =
    let a = c.args.a.now in
    let b = c.args.b.now in
    let low = order_low a c.requires.a in
    let high = order_low b c.requires.b in
    sym (elim c.then-above-eq0.branch [
      | then-above-eq0-via-then-above-eq0 w ↦
          let none = w.if-above-eq0.true in
          cores_of_powers a b c.degree.ensures.polynomial c.degree-2.ensures.polynomial c.requires.a c.requires.b (omega arith) (omega arith)
      | then-above-eq0-via-else-above-eq0+then-eq w ↦ same_to (core a) (core b) (ap core (same_from a b (sym w.eq.ensures ∙ w.if-eq.true)))
    ])
