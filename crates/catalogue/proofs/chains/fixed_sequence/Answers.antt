use Rattle.std.proofs.lemmas.Result.{IfOk-weaker}
use Rattle.case_model.specs.CaseView.{content}
use Rattle.catalogue.proofs.PlainCases.{sequence_plain}
use Rattle.catalogue.proofs.Textbooks.{sequence_made, sequence_rule}
use Rattle.catalogue.proofs.chains.fixed_sequence.Goals as goal

pub returns-clause-graph : goal.returns-clause-graph
returns-clause-graph c = IfOk-weaker c.made.result _ _ (λ k h. sequence_made _ c.args.alpha c.args.p.now (content k) h) c.made.ensures.case

pub returns-clause-plain : goal.returns-clause-plain
returns-clause-plain c = IfOk-weaker c.made.result _ _ (λ k h. sequence_plain _ c.args.alpha c.args.p.now (content k) h) c.made.ensures.case

pub returns-clause-rule : goal.returns-clause-rule
returns-clause-rule c = IfOk-weaker c.made.result _ _
    (λ k h. sequence_rule _ c.args.n c.args.alpha c.args.p.now (content k) c.in_ok-size.ensures.size h) c.made.ensures.case
