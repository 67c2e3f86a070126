-- What `bounds` prints has the bound of each set by the closed test.
use Rattle.std.proofs.Common.{sym, ap, subst, ℕ, ◌<◌, ◌^◌, List, length}
use Rattle.field_core.specs.NumberedSets.{members}
use Rattle.field_core.specs.declared.ratio.Ratio.{Ratio}
use Rattle.fraction.specs.View.{number_of}
use Rattle.answers.specs.declared.answer.Answer.{Answer}
use Rattle.case_model.specs.ClosedTest.{IsLocallyRejected}
use Rattle.case_model.specs.Content.{Content, ForSingle, entangled}
use Rattle.case_model.specs.DiscoveryBound.{IsBound}
use Rattle.case_model.specs.Sums.{number_at}
use Rattle.case_model.specs.Validity.{IsValidContent}
use Rattle.command_words.specs.declared.command.CaseTask.TheVariants.{Bounds}
use Rattle.graph_cli.proofs.ClosedReports.{reports_case}
use Rattle.graph_cli.specs.Bounds.{ReportsBounds, bounds_stage}
use Rattle.graph_cli.specs.Commands.{on_case as answers_on_case}
use Rattle.printed.specs.Bounds.{RejectsSet, IsClosedBoundIn, ClosedBoundsCountFalse, ReportsSetBounds, BoundsAreOfTheClosedTest}
use Rattle.printed.specs.Sets.{CountFalseMembers}
use Rattle.printed.proofs.SetNumbers.{bounds_count}
use Rattle.printed.proofs.SetsOnce.{sets_once}
use Rattle.closed_test.proofs.SetAnswers.{for_single}

module _ (c : Content) where
  abbrev m : ℕ
  m = length c.names

  -- the bounds of all sets by their numbers
  abbrev AreBounds : (ℕ → ℕ) → List Ratio → Type 0
  AreBounds bound ps = (n : ℕ) → n < 2 ^ m → IsBound m (RejectsSet c ps) (members n) (bound n)

  set_bound : (bound : ℕ → ℕ) (n : ℕ) → n < 2 ^ m → ForSingle c.inputs (AreBounds bound) → IsClosedBoundIn c (members n) (bound n)
  set_bound bound n p h = for_single (AreBounds bound) (λ ps. IsBound m (RejectsSet c ps) (members n) (bound n)) (λ ps b. b n p) c.inputs h

  counts : (bound : ℕ → ℕ) → ForSingle c.inputs (AreBounds bound) → ClosedBoundsCountFalse c bound
  unfolding entangled
  counts bound h =
      for_single (AreBounds bound) (λ ps. CountFalseMembers m (RejectsSet c ps) bound)
      (λ ps b. bounds_count m (IsLocallyRejected (entangled c) (number_at ps) (number_of c.alpha)) bound b) c.inputs h

reported : (c : Content) (text : List ℕ) → ReportsBounds c text → ReportsSetBounds c text
reported c text r = record {
  bound = r.0;
  sets = r.2.0;
  text_is = r.2.2;
  all_sets = sets_once (length c.names) r.2.0 r.2.1;
  bounds = λ n p. set_bound c r.0 n p r.1;
  counts = counts c r.0 r.1;
}

bounds_report : (a : Answer) (c : Content) → IsValidContent c → (answers_on_case Bounds c).Gives a → ReportsSetBounds c a.text
unfolding answers_on_case bounds_stage
bounds_report a c v g = reported c a.text (subst (ReportsBounds c) (sym (ap (λ (x : Answer). x.text) g.2)) g.1.1)

pub bounds_of_test : BoundsAreOfTheClosedTest
bounds_of_test words format case proof a asks h z = reports_case ReportsSetBounds words format Bounds case proof a (bounds_report a) asks h z
