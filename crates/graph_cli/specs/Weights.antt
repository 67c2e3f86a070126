-- What `weights` answers.
use Rattle.std.specs.Prelude.{ℕ, List}
use Rattle.field_core.specs.declared.ratio.Ratio.{Ratio}
use Rattle.answers.specs.declared.answer.Answer.{Answer}
use Rattle.graph_cli.specs.declared.trouble.Trouble.{Trouble}
use Rattle.answers.specs.Lines.{done}
use Rattle.answers.specs.Stages.{Stage, and_then, only}
use Rattle.case_model.specs.Content.{Content}
use Rattle.closed_test.specs.SetRuns.{AreRunsDefined}
use Rattle.closed_test.specs.SetWeights.{AreIntersectionWeights}
use Rattle.report.specs.WeightsReport.{IsWeightsReport}
use Rattle.graph_cli.specs.Sets.{IsWideSet}

-- the report of the weights that the members of all sets of a case have in their intersections
abbrev pub ReportsWeights : Content → List ℕ → Type 0
ReportsWeights c text = (weight : ℕ → ℕ → Ratio) × AreIntersectionWeights c weight × IsWeightsReport c weight text

-- the report of the weights, if the runs of all sets are defined; or the first set whose run isn't
abbrev pub weighed : Content → Stage Trouble (List ℕ)
weighed c = record {
  Gives = λ text. AreRunsDefined c × ReportsWeights c text;
  Refuses = IsWideSet c;
}

unfoldable pub weights_stage : Content → Stage Trouble Answer
weights_stage c = and_then (weighed c) (λ text. only (done text))
