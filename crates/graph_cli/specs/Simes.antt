-- What `simes` answers.
use Rattle.std.specs.Prelude.{◌≡◌, ◌<◌, ◌^◌, ℕ, Bool, List, length}
use Rattle.field_core.specs.NumberedSets.{members}
use Rattle.field_core.specs.declared.place.WideAt.{WideAt}
use Rattle.field_core.specs.declared.ratio.Ratio.{Ratio}
use Rattle.fraction.specs.View.{number_of}
use Rattle.answers.specs.declared.answer.Answer.{Answer}
use Rattle.graph_cli.specs.declared.trouble.Trouble.{Trouble}
use Rattle.graph_cli.specs.declared.trouble.Trouble.TheVariants as troubles
use Rattle.answers.specs.Lines.{done}
use Rattle.answers.specs.Stages.{Stage, and_then, only}
use Rattle.case_model.specs.Content.{Content, ForSingle, entangled}
use Rattle.case_model.specs.DiscoveryBound.{IsBound}
use Rattle.case_model.specs.Sums.{number_at}
use Rattle.closed_test.specs.SetRuns.{AreRunsDefined}
use Rattle.closed_test.specs.SetWeights.{AreIntersectionWeights}
use Rattle.refusals.specs.declared.wide.When.TheVariants.{SimesSet}
use Rattle.report.specs.SimesReport.{IsSimesReport}
use Rattle.simes_test.specs.Leaders.{AreLeaders}
use Rattle.simes_test.specs.SimesAnswers.{AreSimesClosedAnswers, AreAllSumsDefined}
use Rattle.simes_test.specs.SimesFaults.{IsSimesFault}
use Rattle.simes_test.specs.SimesTest.{IsSimesClosed}
use Rattle.simes_test.specs.declared.fault.SimesFault.TheVariants.{Wide}
use Rattle.graph_cli.specs.Sets.{IsWideSet}

-- for each set, the bound is its size minus the greatest size of a subset that the closed test of Simes' test, at the level of the case, doesn't reject
abbrev pub AreSimesBounds : Content → (ℕ → ℕ) → Type 0
AreSimesBounds c bound = ForSingle c.inputs (λ ps. (n : ℕ) → n < 2 ^ length c.names
    → IsBound (length c.names) (IsSimesClosed (entangled c) (number_at ps) (number_of c.alpha)) (members n) (bound n))

-- all hypotheses of a case by ascending p-value, ties by position
abbrev pub AreLeadersIn : Content → List ℕ → Type 0
AreLeadersIn c js = ForSingle c.inputs (λ ps. AreLeaders (length c.names) (number_at ps) js)

-- the report of the bounds of all sets of a case, of its hypotheses by ascending p-value, and of the hypotheses that the closed test of Simes' test
-- rejects
pub record ReportsSimes (c : Content) (text : List ℕ) : Type 0 where
  pub bound : ℕ → ℕ
  pub closed : ℕ → Bool
  pub leaders : List ℕ
  pub bounds : AreSimesBounds c bound
  pub answers : AreSimesClosedAnswers c closed
  pub order : AreLeadersIn c leaders
  pub text_is : IsSimesReport c bound closed leaders text

-- a refusal names the first set, in the order of sets, with a sum of weights that isn't defined, and its first member whose sum isn't
abbrev pub IsWideSimesSet : Content → Trouble → Type 0
IsWideSimesSet c r = (weight : ℕ → ℕ → Ratio) × AreIntersectionWeights c weight × (n : ℕ) × (wide : WideAt)
    × IsSimesFault c weight (Wide n wide) × (r ≡ troubles.Wide (SimesSet n) wide)

-- the case, if the runs of all sets are defined; or the first set whose run isn't
abbrev pub runs_of_sets : Content → Stage Trouble Content
runs_of_sets c = record {
  Gives = λ x. AreRunsDefined c × (x ≡ c);
  Refuses = IsWideSet c;
}

-- the report of Simes' test, if the sums of weights of all members of all sets are defined; or the first sum that isn't
abbrev pub simes_tested : Content → Stage Trouble (List ℕ)
simes_tested c = record {
  Gives = λ text. ((weight : ℕ → ℕ → Ratio) × AreIntersectionWeights c weight × AreAllSumsDefined c weight) × ReportsSimes c text;
  Refuses = IsWideSimesSet c;
}

unfoldable pub simes_stage : Content → Stage Trouble Answer
simes_stage c = and_then (runs_of_sets c) (λ x. and_then (simes_tested x) (λ text. only (done text)))
