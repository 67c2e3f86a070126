use Rattle.std.proofs.Common.{◌<◌, ◌≤◌, ◌^◌, ◌∙◌, sym, ap, arith, List, get_or, unsigned_abs, ℕ, ℤ, pos}
use Rattle.std.specs.Int.{w128}
use Rattle.std.proofs.lemmas.Int.{to_z-of_z}
use Rattle.field_core.specs.Polynomial.{coefficient}
use Rattle.field_core.specs.Laws.PolynomialLaws.{coefficient-index}
use Rattle.field_core.proofs.Sized.{fits_from_small}
use Rattle.eps_poly.specs.Polynomials.{IsPolynomial}
use Rattle.eps_poly.proofs.poly.EpsPoly.whole.Goals as goal

entry_small : (p : List ℤ) (k : ℕ) → IsPolynomial p → k ≤ 32 → unsigned_abs (get_or p k (pos 0)) < 2 ^ 127
entry_small p k valid h = let count = valid.count in rw (← coefficient-index p k (pos 0) (omega arith)) (valid.sizes k)

pub new-requires : goal.new-requires
new-requires c =
    let small = entry_small c.self.inside.entries c.args.power c.self.invariant.0 c.requires in
    rw (to_z-of_z w128 (get_or c.self.inside.entries c.args.power (pos 0)) (fits_from_small _ small)) small

pub returns : goal.returns
returns c =
    let small = entry_small c.self.inside.entries c.args.power c.self.invariant.0 c.requires in
    c.new.ensures ∙ to_z-of_z w128 (get_or c.self.inside.entries c.args.power (pos 0)) (fits_from_small _ small)
    ∙ sym (coefficient-index c.self.inside.entries c.args.power (pos 0) (omega (arith, c.requires, c.self.invariant.0.count)))
    ∙ ap (λ p. coefficient p c.args.power) c.self.view_is
