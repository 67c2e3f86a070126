use Rattle.std.proofs.Common.{ap, refl, inr, arith, rules, tests}
use Rattle.std.specs.Prelude.{IsTrue}
use Rattle.case_model.specs.CaseView.{content}
use Rattle.graph_cli.specs.declared.trouble.Trouble.TheVariants.{Closure}
use Rattle.graph_cli.proofs.accepted.suitable.Goals as goal

pub returns-then-size-needs : goal.returns-then-size-needs
returns-then-size-needs c =
    let kind : IsTrue c.is_of.result = search (rules, tests) in
    let count = c.size.ensures.count in
    inr (content c.args.case.now, (c.is_of.ensures.0 kind, refl), (λ few. omega (arith, few), ap Closure c.size-then-size-needs.ensures.count))

pub returns : goal.returns
returns c =
    let kind : IsTrue c.is_of.result = search (rules, tests) in
    let count = c.size.ensures.count in
    (content c.args.case.now, (c.is_of.ensures.0 kind, refl), (omega arith, refl))
