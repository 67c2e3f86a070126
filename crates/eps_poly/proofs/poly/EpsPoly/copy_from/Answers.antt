use Rattle.std.proofs.Common.{◌≡◌, ◌++◌, ◌∙◌, sym, ap, arith, drop}
use Rattle.eps_poly.specs.Written.{count_to_last}
use Rattle.eps_poly.proofs.DegreeLaws.{front_copied}
use Rattle.eps_poly.proofs.poly.EpsPoly.copy_from.Goals as goal

copied : (c : goal.After-self-1) → c.copy_from_slice.new.self ++ drop c.max-end.result c.self.inside.entries ≡ c.other.inside.entries
copied c =
    let own = c.self.invariant.0.count in
    let other = c.other.invariant.0.count in
    let same = ap count_to_last c.self.view_is in
    let same_other = ap count_to_last c.other.view_is in
    let first = c.used.ensures.value in
    let second = c.used-2.ensures.value in
    let high = c.used.ensures.within in
    let high_other = c.used-2.ensures.within in
    ap (λ r. r ++ drop c.max-end.result c.self.inside.entries) c.copy_from_slice.ensures.after
    ∙ front_copied c.self.inside.entries c.other.inside.entries c.max-end.result (own ∙ sym other) (omega (arith, c.max-end.ensures))
    (omega (arith, c.max-end.ensures)) (omega (arith, c.max-end.ensures))

pub invariant_of-self : goal.invariant_of-self
invariant_of-self c = rw (copied c) c.other.invariant

pub returns : goal.returns
returns c = copied c ∙ c.other.view_is
