use Rattle.std.proofs.Common.{◌≡◌, rules, arith}
use Rattle.eps_poly.specs.Factors.{content}
use Rattle.row_removal.specs.Clearing.{row_content}
use Rattle.row_removal.specs.Laws.ClearingLaws.{content_some, content_low}
use Rattle.row_removal.proofs.row.Row.content.Goals as goal

pub returns-clause-some : goal.returns-clause-some
unfolding row_content
returns-clause-some c = let value : c.fold.result ≡ row_content c.args.self.now = search rules in rw value (content_some c.args.self.now c.requires)

pub returns-clause-size : goal.returns-clause-size
unfolding row_content
returns-clause-size c =
    let value : c.fold.result ≡ row_content c.args.self.now = search rules in
    let own : c.content-own.result ≡ content c.args.self.now.denominator = rw (← c.self.view_is) c.content-own.ensures.value in
    omega (arith, content_low c.args.self.now c.requires, c.content-own.ensures.size)
