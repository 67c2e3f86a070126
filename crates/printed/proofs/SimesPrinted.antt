-- What `simes` prints is of the closed test of weighted Simes tests.
use Rattle.std.proofs.Common.{◌≡◌, sym, ap, subst, ℕ, ◌<◌, ◌^◌, true, Bool, List, length, take, ◌↔◌}
use Rattle.field_core.specs.NumberedSets.{members, set_number}
use Rattle.field_core.specs.Sets.{set_of}
use Rattle.field_core.specs.declared.ratio.Ratio.{Ratio}
use Rattle.fraction.specs.View.{number_of}
use Rattle.answers.specs.declared.answer.Answer.{Answer}
use Rattle.case_model.specs.ClosedTest.{only}
use Rattle.case_model.specs.Content.{Content, ForSingle, entangled}
use Rattle.case_model.specs.DiscoveryBound.{IsBound}
use Rattle.case_model.specs.SetAnswers.{AnswersFor}
use Rattle.case_model.specs.Sums.{number_at}
use Rattle.case_model.specs.Validity.{IsValidContent}
use Rattle.case_model.specs.declared.inputs.Inputs.{Inputs}
use Rattle.case_model.specs.declared.inputs.Inputs.TheVariants.{Bare, Single, Staged}
use Rattle.case_model.proofs.Bounds.{yes_rejected, rejected_yes}
use Rattle.case_model.proofs.ClosedTests.{closed_same_by}
use Rattle.command_words.specs.declared.command.CaseTask.TheVariants.{Simes}
use Rattle.report.specs.SimesReport.{set_alone}
use Rattle.simes_test.specs.SimesTest.{IsSimesRejected, IsSimesClosedAlone}
use Rattle.graph_cli.proofs.ClosedReports.{reports_case}
use Rattle.graph_cli.specs.Commands.{on_case as answers_on_case}
use Rattle.graph_cli.specs.Simes.{ReportsSimes, simes_stage}
use Rattle.printed.specs.Sets.{CountFalseMembers}
use Rattle.printed.specs.Simes.{SimesRejectsSet, IsSimesRejectedIn, IsSimesBoundIn, SimesBoundsCountFalse, ReportsSimesTest, SimesReportsAreOfTheSimesTest}
use Rattle.printed.proofs.SetNumbers.{bounds_count, bound_of_set}
use Rattle.printed.proofs.SetsOnce.{sets_once}
use Rattle.closed_test.proofs.SetAnswers.{for_single}

-- so does an equivalence
for_either : (P Q : List Ratio → Type 0) (R : Type 0) → ((ps : List Ratio) → P ps → R ↔ Q ps) → (i : Inputs) → ForSingle i P → R ↔ ForSingle i Q
for_either P Q R step (Single ps) h = step ps h
for_either P Q R step Bare h = absurd h
for_either P Q R step (Staged stages) h = absurd h

module _ (c : Content) where
  abbrev m : ℕ
  m = length c.names

  -- the weighted Simes tests, by these p-values
  abbrev Local : List Ratio → (ℕ → Bool) → Type 0
  Local ps = IsSimesRejected (entangled c) (number_at ps) (number_of c.alpha)

  named : (closed : ℕ → Bool) (j : ℕ) → ForSingle c.inputs (λ ps. AnswersFor m (SimesRejectsSet c ps) closed)
      → (closed (set_alone c j) ≡ true) ↔ IsSimesRejectedIn c j
  unfolding entangled
  named closed j h =
      for_either (λ ps. AnswersFor m (SimesRejectsSet c ps) closed)
      (λ ps. IsSimesClosedAlone (entangled c) (number_at ps) (number_of c.alpha) j) (closed (set_alone c j) ≡ true)
      (λ ps answers. (
        yes_rejected m closed (SimesRejectsSet c ps) (closed_same_by m (Local ps)) answers (only j),
        rejected_yes m closed (SimesRejectsSet c ps) (closed_same_by m (Local ps)) answers (only j),
      )) c.inputs h

  -- the bounds of all sets by their numbers
  abbrev AreBounds : (ℕ → ℕ) → List Ratio → Type 0
  AreBounds bound ps = (n : ℕ) → n < 2 ^ m → IsBound m (SimesRejectsSet c ps) (members n) (bound n)

  set_bound : (bound : ℕ → ℕ) (n : ℕ) → n < 2 ^ m → ForSingle c.inputs (AreBounds bound) → IsSimesBoundIn c (members n) (bound n)
  set_bound bound n p h = for_single (AreBounds bound) (λ ps. IsBound m (SimesRejectsSet c ps) (members n) (bound n)) (λ ps b. b n p) c.inputs h

  top_bound : (bound : ℕ → ℕ) (js : List ℕ) → ForSingle c.inputs (AreBounds bound) → IsSimesBoundIn c (set_of js) (bound (set_number m (set_of js)))
  unfolding entangled
  top_bound bound js h =
      for_single (AreBounds bound) (λ ps. IsBound m (SimesRejectsSet c ps) (set_of js) (bound (set_number m (set_of js))))
      (λ ps b. bound_of_set m (Local ps) bound b (set_of js)) c.inputs h

  counts : (bound : ℕ → ℕ) → ForSingle c.inputs (AreBounds bound) → SimesBoundsCountFalse c bound
  unfolding entangled
  counts bound h = for_single (AreBounds bound) (λ ps. CountFalseMembers m (SimesRejectsSet c ps) bound) (λ ps b. bounds_count m (Local ps) bound b) c.inputs h

reported : (c : Content) (text : List ℕ) → ReportsSimes c text → ReportsSimesTest c text
reported c text r = record {
  bound = r.bound;
  closed = r.closed;
  leaders = r.leaders;
  sets = r.text_is.0;
  text_is = r.text_is.2;
  all_sets = sets_once (length c.names) r.text_is.0 r.text_is.1;
  named = λ j. named c r.closed j r.answers;
  bounds = λ n p. set_bound c r.bound n p r.bounds;
  order = r.order;
  tops = λ k p. top_bound c r.bound (take k r.leaders) r.bounds;
  counts = counts c r.bound r.bounds;
}

simes_reports : (a : Answer) (c : Content) → IsValidContent c → (answers_on_case Simes c).Gives a → ReportsSimesTest c a.text
unfolding answers_on_case simes_stage
simes_reports a c v g =
    let tested = g.2 in
    let same : g.0 ≡ c = g.1.1 in
    let text_is = ap (λ (x : Answer). x.text) tested.2 in
    reported c a.text (subst (ReportsSimes c) (sym text_is) (subst (λ x. ReportsSimes x tested.0) same tested.1.1))

pub simes_of_test : SimesReportsAreOfTheSimesTest
simes_of_test words format case proof a asks h z = reports_case ReportsSimesTest words format Simes case proof a (simes_reports a) asks h z
