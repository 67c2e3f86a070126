-- What `bounds` answers.
use Rattle.std.specs.Prelude.{◌<◌, ◌^◌, ℕ, List, length}
use Rattle.answers.specs.declared.answer.Answer.{Answer}
use Rattle.graph_cli.specs.declared.trouble.Trouble.{Trouble}
use Rattle.answers.specs.Lines.{done}
use Rattle.answers.specs.Stages.{Stage, and_then, only}
use Rattle.field_core.specs.NumberedSets.{members}
use Rattle.fraction.specs.View.{number_of}
use Rattle.case_model.specs.ClosedTest.{IsClosedRejected}
use Rattle.case_model.specs.Content.{Content, ForSingle, entangled}
use Rattle.case_model.specs.DiscoveryBound.{IsBound}
use Rattle.case_model.specs.Sums.{number_at}
use Rattle.closed_test.specs.SetRuns.{AreRunsDefined}
use Rattle.report.specs.BoundsReport.{IsBoundsReport}
use Rattle.graph_cli.specs.Sets.{IsWideSet}

-- for each set, the bound is its size minus the greatest size of a subset that the closed test, at the level of the case, doesn't reject
abbrev pub AreClosedBounds : Content → (ℕ → ℕ) → Type 0
AreClosedBounds c bound = ForSingle c.inputs (λ ps. (n : ℕ) → n < 2 ^ length c.names
    → IsBound (length c.names) (IsClosedRejected (entangled c) (number_at ps) (number_of c.alpha)) (members n) (bound n))

-- the report of the bounds of all sets of a case
abbrev pub ReportsBounds : Content → List ℕ → Type 0
ReportsBounds c text = (bound : ℕ → ℕ) × AreClosedBounds c bound × IsBoundsReport c bound text

-- the report of the bounds, if the runs of all sets are defined; or the first set whose run isn't
abbrev pub bounded : Content → Stage Trouble (List ℕ)
bounded c = record {
  Gives = λ text. AreRunsDefined c × ReportsBounds c text;
  Refuses = IsWideSet c;
}

unfoldable pub bounds_stage : Content → Stage Trouble Answer
bounds_stage c = and_then (bounded c) (λ text. only (done text))
