-- `test` has at most one outcome on a case.
use Rattle.std.proofs.Common.{sym, ap₂, ◌∙◌}
use Rattle.answers.specs.Stages.{IsDecided}
use Rattle.answers.proofs.Decided.{then_decided, only_decided}
use Rattle.case_model.specs.Content.{Content}
use Rattle.sequential.specs.declared.priority.Priority.{Priority}
use Rattle.sequential.proofs.DecisionLaws.{decision_unique}
use Rattle.sequential.proofs.WideLaws.{wide_unique}
use Rattle.adjusted_p.proofs.ListLaws.{lists_unique, wide_runs_unique}
use Rattle.refusals.specs.declared.wide.When.TheVariants.{Step, AdjustedStep}
use Rattle.graph_cli.specs.declared.trouble.Trouble.TheVariants.{Wide}
use Rattle.graph_cli.specs.Test.{decided, adjusted, test_stage}

pub decision_decided : (priority : Priority) (c : Content) → IsDecided (decided priority c)
decision_decided priority c = record {
  one = λ d e h k. decision_unique c priority d e h.1 k.1;
  one_refusal = λ r q h k. let e = wide_unique c priority h.0 k.0 h.1 k.1 h.2 k.2 in h.3 ∙ ap₂ (λ i x. Wide (Step i) x) e.0 e.1
      ∙ sym k.3;
  not_both = λ d r h k. h.0 k.0 k.1 k.2;
}

adjusted_decided : (c : Content) → IsDecided (adjusted c)
adjusted_decided c = record {
  one = λ xs ys h k. lists_unique c xs ys h.1 k.1;
  one_refusal = λ r q h k. let e = wide_runs_unique c h.0 k.0 h.1 k.1 h.2 k.2 in h.3 ∙ ap₂ (λ i x. Wide (AdjustedStep i) x) e.0 e.1
      ∙ sym k.3;
  not_both = λ xs r h k. h.0 k.0 k.1 k.2;
}

pub test_decided : (priority : Priority) (c : Content) → IsDecided (test_stage priority c)
unfolding test_stage
test_decided priority c = then_decided _ _ (decision_decided priority c) (λ d. then_decided _ _ (adjusted_decided c) (λ xs. only_decided _))
