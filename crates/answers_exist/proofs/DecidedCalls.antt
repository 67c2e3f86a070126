-- The calls that decide a case, and that print its looks, end.
use Rattle.std.proofs.Common.{◌≡◌, inl, inr, refl, List}
use Rattle.field_core.specs.declared.ratio.Ratio.{Ratio}
use Rattle.answers.specs.Stages.{Ends}
use Rattle.case_model.specs.declared.inputs.Inputs.TheVariants.{Single}
use Rattle.case_model.specs.Content.{Content}
use Rattle.case_model.specs.Validity.{IsValidContent}
use Rattle.refusals.specs.declared.wide.When.TheVariants.{Step, AdjustedStep, Opening, Arrival}
use Rattle.report.specs.StagesReport.{stages_report}
use Rattle.report.specs.TestReport.{test_report}
use Rattle.sequential.specs.declared.priority.Priority.{Priority}
use Rattle.answers.specs.Lines.{done}
use Rattle.graph_cli.specs.Stages.{looked, stages_stage}
use Rattle.graph_cli.specs.Test.{decided, adjusted, test_stage}
use Rattle.graph_cli.specs.declared.trouble.Trouble.TheVariants.{Wide}
use Rattle.answers_exist.proofs.AdjustedRuns.{adjusted_or_wide}
use Rattle.answers_exist.proofs.Decisions.{decision_or_wide}
use Rattle.answers_exist.proofs.Ends.{then_ends, only_ends}
use Rattle.answers_exist.proofs.StageLooks.{looks_or_wide}

module _ (c : Content) (V : IsValidContent c) where
  module _ (ps : List Ratio) (e : c.inputs ≡ Single ps) where
    pub decided_ends : (priority : Priority) → Ends (decided priority c)
    decided_ends priority = elim (decision_or_wide c priority ps V e) [
      | inl d ↦ inl (d.0, (d.1, d.2))
      | inr w ↦ inr (Wide (Step w.0) w.1, (w.0, w.1, w.2, refl))
    ]

    adjusted_ends : Ends (adjusted c)
    adjusted_ends = elim (adjusted_or_wide c ps V e) [
      | inl xs ↦ inl (xs.0, (xs.1, xs.2))
      | inr w ↦ inr (Wide (AdjustedStep w.0) w.1, (w.0, w.1, w.2, refl))
    ]

    pub test_ends : (priority : Priority) → Ends (test_stage priority c)
    unfolding test_stage
    test_ends priority =
        then_ends (decided priority c) _ (decided_ends priority)
        (λ d D. then_ends (adjusted c) _ adjusted_ends (λ xs X. only_ends (done (test_report c d xs))))

  looked_ends : Ends (looked c)
  looked_ends = elim (looks_or_wide c V) [
    | inl ls ↦ inl (ls.0, ls.1)
    | inr (inl w) ↦ inr (Wide Opening w.0, inl (w.0, w.1, refl))
    | inr (inr b) ↦ inr (Wide (Arrival b.0) b.1, inr (b.0, b.1, b.2, refl))
  ]

  pub stages_ends : Ends (stages_stage c)
  unfolding stages_stage
  stages_ends = then_ends (looked c) _ looked_ends (λ looks L. only_ends (done (stages_report c looks)))
