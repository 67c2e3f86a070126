use Rattle.std.proofs.Common.{arith, inl, inr, pos, rules, FitsSigned}
use Rattle.std.specs.Int.{w64}
use Rattle.std.proofs.lemmas.Bool.{cases_lt}
use Rattle.eps_poly.proofs.DegreeLaws.{coefficient-above}
use Rattle.eps_poly.proofs.poly.EpsPoly.is_short.Goals as goal

none_fits : FitsSigned w64 (pos 0)
none_fits = search rules

pub returns : goal.returns
returns c whole =
    let p = c.args.self.now in
    let done = c.loop-power-test.false in
    let same = c.used-power-end.ensures.value in
    record {
      fits = λ k. elim (cases_lt k c.loop-power.power) [
        | inl l ↦ c.loop-power.invariant k l
        | inr l ↦ rw (coefficient-above p k (omega arith)) none_fits
      ];
    }
