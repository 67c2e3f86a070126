use Rattle.std.proofs.Common.{◌≡◌, ◌<ℤ◌, pos, sym, subst, rules}
use Rattle.eps_quotient.specs.Stored.{IsQuotient}
use Rattle.row_removal.specs.Gathering.{HasConstants, given_below}
use Rattle.row_removal.specs.Laws.GatheringLaws.{below_positive}
use Rattle.row_removal.proofs.Given.{constant_given}
use Rattle.row_removal.proofs.gathering.GivenGraph.below.Goals as goal

pub returns-clause-positive : goal.returns-clause-positive
returns-clause-positive c =
    let G = c.args.self.now in
    let constants : HasConstants G = rw (← c.self.view_is) c.self.invariant.constants in
    let value : c.whole.result ≡ given_below G c.args.row c.args.k = search rules in
    subst (λ z. pos 0 <ℤ z) (sym value)
    (below_positive _ (subst IsQuotient c.number.ensures c.number.result.stored)
    (constant_given G c.args.row c.args.k constants c.requires.row c.requires.k))
