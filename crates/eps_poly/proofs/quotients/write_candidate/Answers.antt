use Rattle.std.proofs.Common.{◌≡◌, refl, arith, Bool, true, false, ◌&&◌, Some, None, IsTrue}
use Rattle.field_core.specs.Polynomial.{coefficient}
use Rattle.eps_poly.proofs.Coefficients.{filled_none, filled_more}
use Rattle.eps_poly.proofs.DegreeLaws.{degree_at_least}
use Rattle.eps_poly.proofs.QuotientLaws.{divisor_some, quotient_known}
use Rattle.eps_poly.proofs.Validity.{set_short, zero_short}
use Rattle.eps_poly.proofs.quotients.write_candidate.Goals as goal
use Rattle.field_core.proofs.Results.{same_some}

pub loop-power-init : goal.loop-power-init
loop-power-init c = record {
  filled = filled_none _ _ c.clear.ensures;
  known = λ e. rw c.clear.ensures zero_short;
  by = λ e. c.is_short-are_short.ensures e;
}

pub next-requires-clause-power : goal.next-requires-clause-power
next-requires-clause-power c =
    let more = c.loop-power-test.true in
    let high = degree_at_least c.args.by.now c.order-low.result (divisor_some c.args.by.now c.order-low.result c.order-low.ensures.value c.requires) in
    omega arith

both : (a b : Bool) → (a && b) ≡ true → (a ≡ true) × IsTrue b
both true true e = (refl, refl)
both true false e = cc
both false b e = cc

pub loop-power-preserved : goal.loop-power-preserved
loop-power-preserved c =
    let more = c.loop-power-test.true in
    rw c.put.ensures record {
      filled = filled_more _ _ _ _ (omega arith) c.loop-power.invariant.filled
          (λ q e. same_some _ _ (c.in_ok-c.ensures q e (λ k h. c.loop-power.invariant.filled.front k h q e)));
      known = λ e. let h = both c.loop-power.are_short _ e in
          set_short _ c.loop-power.power c.in_ok-c.c (c.loop-power.invariant.known h.0) (omega (arith, c.loop-power.invariant.filled.count))
          (c.is_short-are_short-in-loop-power.ensures.0 h.1);
      by = λ e. c.loop-power.invariant.by (both c.loop-power.are_short _ e).0;
    }

pub returns-in_err-c-clause-only : goal.returns-in_err-c-clause-only
returns-in_err-c-clause-only c q e =
    let found : None ≡ Some (coefficient q c.loop-power.power) = c.in_err-c.ensures q e (λ k h. c.loop-power.invariant.filled.front k h q e) in
    absurd (cc)

pub returns-clause-only : goal.returns-clause-only
returns-clause-only c q e =
    let done = c.loop-power-test.false in
    quotient_known c.args.p.now c.args.by.now q c.loop-power.quotient c.loop-power.power e c.requires (omega arith)
    (λ k h. c.loop-power.invariant.filled.front k h q e) c.loop-power.invariant.filled.rest

pub returns-clause-count : goal.returns-clause-count
returns-clause-count c = c.loop-power.invariant.filled.count
