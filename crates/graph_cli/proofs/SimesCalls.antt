-- `simes` has at most one outcome on a case.
use Rattle.std.proofs.Common.{◌≡◌, ◌≢◌, sym, ap₂, subst, ◌∙◌, ℕ, ◌^◌, ◌<◌, Bool, List, length}
use Rattle.std.specs.List.{All, AllPairs}
use Rattle.field_core.specs.NumberedSets.{members}
use Rattle.field_core.specs.declared.ratio.Ratio.{Ratio}
use Rattle.fraction.specs.View.{number_of}
use Rattle.graph_cli.specs.declared.trouble.Trouble.{Trouble}
use Rattle.graph_cli.specs.declared.trouble.Trouble.TheVariants.{Wide}
use Rattle.answers.specs.Stages.{IsDecided}
use Rattle.answers.proofs.Decided.{then_decided, only_decided}
use Rattle.case_model.specs.Content.{Content, entangled}
use Rattle.case_model.specs.DiscoveryBound.{IsBound}
use Rattle.case_model.specs.SetAnswers.{SaysYes, AnswersFor}
use Rattle.case_model.specs.Sums.{number_at}
use Rattle.case_model.proofs.Bounds.{one_bound}
use Rattle.case_model.proofs.SingleInputs as single
use Rattle.case_model.proofs.SingleInputs.{for_both}
use Rattle.closed_test.proofs.SetAnswers.{for_single}
use Rattle.simes_test.specs.Leaders.{AreLeaders}
use Rattle.simes_test.specs.SimesAnswers.{AreSimesClosedAnswers}
use Rattle.simes_test.specs.SimesTest.{IsSimesClosed}
use Rattle.simes_test.proofs.OneOutcome.{one_ranking, one_wide_sum, defined_not_wide, one_closed_table}
use Rattle.simes_test.proofs.Rankings.{leaders_once}
use Rattle.simes_test.proofs.SimesLaws.{simes_table_bound}
use Rattle.refusals.specs.declared.wide.When.TheVariants.{SimesSet}
use Rattle.report.proofs.SetReports.{one_simes_report}
use Rattle.graph_cli.specs.Simes.{AreSimesBounds, AreLeadersIn, ReportsSimes, IsWideSimesSet, runs_of_sets, simes_tested, simes_stage}
use Rattle.graph_cli.proofs.SetAnswers.{one_wide_set, none_wide}

-- ---- sums that are too wide

one_wide_simes : (c : Content) (r q : Trouble) → IsWideSimesSet c r → IsWideSimesSet c q → r ≡ q
one_wide_simes c r q h k = let e = one_wide_sum c h.0 k.0 h.1 k.1 h.2 k.2 h.3 k.3 h.4 k.4 in h.5 ∙ ap₂ (λ n w. Wide (SimesSet n) w) e.0 e.1
    ∙ sym k.5

-- ---- the report

bounds_agree : (c : Content) (bound other : ℕ → ℕ) → AreSimesBounds c bound → AreSimesBounds c other → (n : ℕ) → n < 2 ^ length c.names
    → bound n ≡ other n
bounds_agree c bound other h k n p =
    for_both (λ ps. (o : ℕ) → o < 2 ^ length c.names → IsBound (length c.names) (IsSimesClosed (entangled c) (number_at ps) (number_of c.alpha))
    (members o) (bound o))
    (λ ps. (o : ℕ) → o < 2 ^ length c.names → IsBound (length c.names) (IsSimesClosed (entangled c) (number_at ps) (number_of c.alpha)) (members o)
    (other o))
    (bound n ≡ other n) (λ ps f g. one_bound (length c.names) (IsSimesClosed (entangled c) (number_at ps) (number_of c.alpha)) (members n) _ _ (f n p)
    (g n p)) c.inputs h k

leaders_agree : (c : Content) (js ks : List ℕ) → AreLeadersIn c js → AreLeadersIn c ks → js ≡ ks
leaders_agree c js ks h k =
    for_both (λ ps. AreLeaders (length c.names) (number_at ps) js) (λ ps. AreLeaders (length c.names) (number_at ps) ks) (js ≡ ks)
    (λ ps. one_ranking (length c.names) (number_at ps) js ks) c.inputs h k

one_report : (c : Content) (text again : List ℕ) → ReportsSimes c text → ReportsSimes c again → text ≡ again
one_report c text again h k =
    one_simes_report c h.bound k.bound (bounds_agree c h.bound k.bound h.bounds k.bounds) h.closed k.closed
    (one_closed_table c h.closed k.closed h.answers k.answers)
    h.leaders k.leaders (leaders_agree c h.leaders k.leaders h.order k.order) text again h.text_is k.text_is

-- ---- the stages

runs_decided : (c : Content) → IsDecided (runs_of_sets c)
runs_decided c = record { one = λ x y h k. h.1 ∙ sym k.1; one_refusal = one_wide_set c; not_both = λ x r h k. none_wide c r h.0 k }

tested_decided : (c : Content) → IsDecided (simes_tested c)
tested_decided c = record {
  one = λ text again h k. one_report c text again h.1 k.1;
  one_refusal = one_wide_simes c;
  not_both = λ text r h k. defined_not_wide c h.0.0 k.0 h.0.1 k.1 k.2 k.3 h.0.2 k.4;
}

pub simes_decided : (c : Content) → IsDecided (simes_stage c)
unfolding simes_stage
simes_decided c = then_decided _ _ (runs_decided c) (λ x. then_decided _ _ (tested_decided x) (λ text. only_decided _))

-- ---- the bounds by a table of what the closed test of Simes' test rejects are its own

bounds_for : (c : Content) (table : ℕ → Bool) (bound : ℕ → ℕ)
    → ((n : ℕ) → n < 2 ^ length c.names → IsBound (length c.names) (SaysYes (length c.names) table) (members n) (bound n))
    → (ps : List Ratio) → AnswersFor (length c.names) (IsSimesClosed (entangled c) (number_at ps) (number_of c.alpha)) table
    → (n : ℕ) → n < 2 ^ length c.names → IsBound (length c.names) (IsSimesClosed (entangled c) (number_at ps) (number_of c.alpha)) (members n) (bound n)
unfolding entangled
bounds_for c table bound h ps answers n p = (simes_table_bound (entangled c) (number_at ps) (number_of c.alpha) table (members n) (bound n) answers).0 (h n p)

pub simes_bounds : (c : Content) (m : ℕ) (table : ℕ → Bool) (bound : ℕ → ℕ) → m ≡ length c.names → AreSimesClosedAnswers c table
    → ((n : ℕ) → n < 2 ^ m → IsBound m (SaysYes m table) (members n) (bound n)) → AreSimesBounds c bound
simes_bounds c m table bound e answers h = for_single _ _
    (bounds_for c table bound (subst (λ k. (n : ℕ) → n < 2 ^ k → IsBound k (SaysYes k table) (members n) (bound n)) e h)) c.inputs answers

-- ---- each leader is a hypothesis, and none is another one

pub leaders_apart : (c : Content) (js : List ℕ) → AreLeadersIn c js → All (λ j. j < length c.names) js × AllPairs (λ i j. i ≢ j) js
leaders_apart c js = single.for_single (λ ps. AreLeaders (length c.names) (number_at ps) js)
    (λ _. All (λ j. j < length c.names) js × AllPairs (λ i j. i ≢ j) js) (λ ps L. leaders_once (length c.names) (number_at ps) js L) c.inputs
