use Rattle.std.proofs.lemmas.Result.{IfOk-weaker}
use Rattle.case_model.specs.CaseView.{content}
use Rattle.catalogue.proofs.PlainCases.{fallback_plain_case}
use Rattle.catalogue.proofs.Textbooks.{fallback_made, fallback_rule}
use Rattle.catalogue.proofs.chains.fallback.Goals as goal

pub returns-clause-graph : goal.returns-clause-graph
returns-clause-graph c = IfOk-weaker c.made.result _ _ (λ k h. fallback_made c.args.weights.now c.args.alpha c.args.p.now (content k) h) c.made.ensures.case

pub returns-clause-plain : goal.returns-clause-plain
returns-clause-plain c = IfOk-weaker c.made.result _ _
    (λ k h. fallback_plain_case c.args.weights.now c.args.alpha c.args.p.now (content k) h) c.made.ensures.case

pub returns-clause-rule : goal.returns-clause-rule
returns-clause-rule c = IfOk-weaker c.made.result _ _ (λ k h. fallback_rule c.args.weights.now c.args.alpha c.args.p.now (content k) h) c.made.ensures.case
