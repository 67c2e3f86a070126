-- `weights` and `bounds` have at most one outcome on a case.
use Rattle.std.proofs.Common.{◌≡◌, sym, ap₂, subst, ◌∙◌, ℕ, ◌^◌, ◌<◌, Bool, List, length}
use Rattle.field_core.specs.NumberedSets.{members}
use Rattle.fraction.specs.View.{number_of}
use Rattle.fraction.proofs.SameRatios.{same_number}
use Rattle.graph_cli.specs.declared.trouble.Trouble.{Trouble}
use Rattle.graph_cli.specs.declared.trouble.Trouble.TheVariants.{Wide}
use Rattle.answers.specs.Stages.{IsDecided}
use Rattle.answers.proofs.Decided.{then_decided, only_decided}
use Rattle.case_model.specs.ClosedTest.{IsClosedRejected}
use Rattle.case_model.specs.Content.{Content, ForSingle, entangled}
use Rattle.case_model.specs.DiscoveryBound.{IsBound}
use Rattle.case_model.specs.SetAnswers.{SaysYes, AnswersFor}
use Rattle.case_model.specs.Sums.{number_at}
use Rattle.case_model.specs.declared.inputs.Inputs.{Inputs}
use Rattle.case_model.specs.declared.inputs.Inputs.TheVariants.{Bare, Single, Staged}
use Rattle.case_model.proofs.Bounds.{one_bound, answered_bound}
use Rattle.case_model.proofs.ClosedTestLaws.{closed_same}
use Rattle.case_model.proofs.IntersectionLaws.{intersection_unique}
use Rattle.closed_test.specs.SetRuns.{AreRunsDefined}
use Rattle.closed_test.specs.SetTests.{AreClosedAnswers}
use Rattle.closed_test.proofs.SetLists.{defined_not_wide, first_wide_unique}
use Rattle.refusals.specs.declared.wide.When.TheVariants.{Set}
use Rattle.report.proofs.SetReports.{one_weights_report, one_bounds_report}
use Rattle.graph_cli.specs.Bounds.{AreClosedBounds, ReportsBounds, bounded, bounds_stage}
use Rattle.graph_cli.specs.Sets.{IsWideSet}
use Rattle.graph_cli.specs.Weights.{ReportsWeights, weighed, weights_stage}

-- ---- sets that are too wide

pub one_wide_set : (c : Content) (r q : Trouble) → IsWideSet c r → IsWideSet c q → r ≡ q
one_wide_set c r q h k = let e = first_wide_unique c h.0 k.0 h.1 k.1 h.2 k.2 in h.3 ∙ ap₂ (λ n w. Wide (Set n) w) e.0 e.1 ∙ sym k.3

pub none_wide : (c : Content) (r : Trouble) → AreRunsDefined c → IsWideSet c r → ⊥
none_wide c r d k = defined_not_wide c k.0 k.1 d k.2

-- ---- weights

one_weights : (c : Content) (text again : List ℕ) → ReportsWeights c text → ReportsWeights c again → text ≡ again
one_weights c text again h k =
    one_weights_report c h.0 k.0 (λ n i p q. same_number (h.0 n i) (k.0 n i) (intersection_unique (entangled c) (members n) i _ _ (h.1 n i p q) (k.1 n i p q)))
    text again h.2 k.2

pub weights_decided : (c : Content) → IsDecided (weights_stage c)
unfolding weights_stage
weights_decided c = then_decided (weighed c) _ (record {
  one = λ text again h k. one_weights c text again h.1 k.1;
  one_refusal = one_wide_set c;
  not_both = λ text r h k. none_wide c r h.0 k;
}) (λ text. only_decided _)

-- ---- bounds

bounds_agree : (c : Content) (inputs : Inputs) (bound other : ℕ → ℕ)
    → ForSingle inputs (λ ps. (n : ℕ) → n < 2 ^ length c.names
    → IsBound (length c.names) (IsClosedRejected (entangled c) (number_at ps) (number_of c.alpha)) (members n) (bound n))
    → ForSingle inputs (λ ps. (n : ℕ) → n < 2 ^ length c.names
    → IsBound (length c.names) (IsClosedRejected (entangled c) (number_at ps) (number_of c.alpha)) (members n) (other n))
    → (n : ℕ) → n < 2 ^ length c.names → bound n ≡ other n
bounds_agree c (Single ps) bound other h k n p = one_bound (length c.names) (IsClosedRejected (entangled c) (number_at ps) (number_of c.alpha)) (members n) _ _
    (h n p) (k n p)
bounds_agree c Bare bound other h k n p = absurd h
bounds_agree c (Staged stages) bound other h k n p = absurd h

one_bounds : (c : Content) (text again : List ℕ) → ReportsBounds c text → ReportsBounds c again → text ≡ again
one_bounds c text again h k = one_bounds_report c h.0 k.0 (bounds_agree c c.inputs h.0 k.0 h.1 k.1) text again h.2 k.2

pub bounds_decided : (c : Content) → IsDecided (bounds_stage c)
unfolding bounds_stage
bounds_decided c = then_decided (bounded c) _ (record {
  one = λ text again h k. one_bounds c text again h.1 k.1;
  one_refusal = one_wide_set c;
  not_both = λ text r h k. none_wide c r h.0 k;
}) (λ text. only_decided _)

-- the bounds by a table of what the closed test rejects are those of the closed test
bounds_of_table : (c : Content) (inputs : Inputs) (table : ℕ → Bool) (bound : ℕ → ℕ)
    → ForSingle inputs (λ ps. AnswersFor (length c.names) (IsClosedRejected (entangled c) (number_at ps) (number_of c.alpha)) table)
    → ((n : ℕ) → n < 2 ^ length c.names → IsBound (length c.names) (SaysYes (length c.names) table) (members n) (bound n))
    → ForSingle inputs (λ ps. (n : ℕ) → n < 2 ^ length c.names
    → IsBound (length c.names) (IsClosedRejected (entangled c) (number_at ps) (number_of c.alpha)) (members n) (bound n))
unfolding entangled
bounds_of_table c (Single ps) table bound answers h = λ n p.
    (answered_bound (length c.names) table (IsClosedRejected (entangled c) (number_at ps) (number_of c.alpha))
    (closed_same (entangled c) (number_at ps) (number_of c.alpha)) answers (members n) (bound n)).0 (h n p)
bounds_of_table c Bare table bound answers h = absurd answers
bounds_of_table c (Staged stages) table bound answers h = absurd answers

pub closed_bounds : (c : Content) (m : ℕ) (table : ℕ → Bool) (bound : ℕ → ℕ) → m ≡ length c.names → AreClosedAnswers c table
    → ((n : ℕ) → n < 2 ^ m → IsBound m (SaysYes m table) (members n) (bound n)) → AreClosedBounds c bound
closed_bounds c m table bound e answers h = bounds_of_table c c.inputs table bound answers
    (subst (λ k. (n : ℕ) → n < 2 ^ k → IsBound k (SaysYes k table) (members n) (bound n)) e h)
