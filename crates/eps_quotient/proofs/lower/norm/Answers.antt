use Rattle.std.proofs.Common.{◌∙◌, ap, sym, subst}
use Rattle.eps_quotient.specs.Lowering.{norm, turned}
use Rattle.eps_quotient.specs.Laws.NormLaws.{IsStoredOf, norm_is}
use Rattle.eps_quotient.proofs.lower.norm.Goals as goal

pub returns-clause-exact : goal.returns-clause-exact
unfolding norm
returns-clause-exact c =
    let a = c.args.a.now in
    let b = c.args.b.now in
    subst (IsStoredOf a b) (sym (c.turned.ensures ∙ ap turned c.lower.ensures.lowered)) (norm_is a b c.lower.ensures.held.0 c.lower.ensures.held.1 c.requires)
