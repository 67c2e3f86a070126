use Rattle.std.proofs.Common.{◌≡◌, ◌++◌, ◌∙◌, ap, sym, arith, drop, rules, length-take, replicate, pos}
use Rattle.eps_poly.specs.Polynomials.{zero_polynomial}
use Rattle.eps_poly.specs.Written.{count_to_last}
use Rattle.eps_poly.proofs.DegreeLaws.{count_zero, front_cleared}
use Rattle.eps_poly.proofs.Validity.{zero_valid}
use Rattle.eps_poly.proofs.poly.EpsPoly.clear.Goals as goal

cleared : (c : goal.After-self-1) → c.fill.new.self ++ drop c.used-end.result c.self.inside.entries ≡ zero_polynomial
cleared c =
    let own = c.self.invariant.0.count in
    let same = ap count_to_last c.self.view_is in
    let first = c.used-end.ensures.value in
    let high = c.used-end.ensures.within in
    let front = c.fill.ensures.after (λ y e. search rules) in
    let count = length-take c.used-end.result c.self.inside.entries in
    let few : count_to_last c.self.inside.entries ≡ c.used-end.result = same ∙ sym first in
    ap (λ r. r ++ drop c.used-end.result c.self.inside.entries) (front ∙ ap (λ n. replicate n (pos 0)) (omega arith))
    ∙ front_cleared c.self.inside.entries c.used-end.result own high (omega arith)

pub invariant_of-self : goal.invariant_of-self
invariant_of-self c = rw (cleared c) (zero_valid, count_zero)

pub returns : goal.returns
returns c = cleared c
