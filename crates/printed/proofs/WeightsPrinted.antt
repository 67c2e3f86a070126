-- What `weights` prints has the weights of all intersections, and they suffice for the closed test by whatever p-values.
use Rattle.std.proofs.Common.{◌≡◌, sym, ap, subst, ◌∙◌, ℕ, ◌<◌, ◌^◌, true, Bool, List, length, ◌↔◌}
use Rattle.field_core.specs.Number.{Number}
use Rattle.field_core.specs.NumberedSets.{members, set_number}
use Rattle.field_core.specs.declared.ratio.Ratio.{Ratio}
use Rattle.field_core.proofs.Members.{members_number, number_below}
use Rattle.fraction.specs.View.{number_of}
use Rattle.answers.specs.declared.answer.Answer.{Answer}
use Rattle.case_model.specs.ClosedTest.{AtLevel, IsLocallyRejected, IsRejected}
use Rattle.case_model.specs.Content.{Content, entangled}
use Rattle.case_model.specs.Validity.{IsValidContent}
use Rattle.case_model.proofs.ClosedTests.{rejected_each_by, all_rejected_by}
use Rattle.case_model.proofs.LocalTests.{legal_passes_by, passes_legal_by, locally_same_by}
use Rattle.closed_test.specs.SetWeights.{AreIntersectionWeights}
use Rattle.command_words.specs.declared.command.CaseTask.TheVariants.{Weights}
use Rattle.graph_cli.proofs.ClosedReports.{reports_case}
use Rattle.graph_cli.specs.Commands.{on_case as answers_on_case}
use Rattle.graph_cli.specs.Weights.{ReportsWeights, weights_stage}
use Rattle.printed.specs.Weights.{HasMemberPassing, ReportsSetWeights, WeightsAreOfTheIntersections}
use Rattle.printed.proofs.SetsOnce.{sets_once}

module _ (c : Content) (weight : ℕ → ℕ → Ratio) (are : AreIntersectionWeights c weight) (p : ℕ → Number) (level : Number) where
  abbrev m : ℕ
  m = length c.names

  abbrev Local : (ℕ → Bool) → Type 0
  Local = IsLocallyRejected (entangled c) p level

  -- the local test of a set by its printed weights
  tests : (n : ℕ) → n < 2 ^ m → Local (members n) ↔ HasMemberPassing m weight p level n
  unfolding entangled
  tests n below = (
    λ r. record {
      hypothesis = r.hypothesis;
      member = r.legal.member;
      passes = legal_passes_by (entangled c) (AtLevel p level) (members n) r.hypothesis (number_of (weight n r.hypothesis)) r.legal
          (are n r.hypothesis below r.legal.member);
    },
    λ h. record {
      hypothesis = h.hypothesis;
      legal = passes_legal_by (entangled c) (AtLevel p level) (members n) h.hypothesis (number_of (weight n h.hypothesis)) h.member
          (are n h.hypothesis below h.member) h.passes;
    },
  )

  abbrev PassesEach : ℕ → Type 0
  PassesEach j = (n : ℕ) → n < 2 ^ m → members n j ≡ true → HasMemberPassing m weight p level n

  to : (j : ℕ) → j < m → IsRejected (entangled c) p level j → PassesEach j
  unfolding entangled
  to j q r n below e = (tests n below).0 (rejected_each_by m Local j r (members n) (record { below = q; member = e }))

  from : (j : ℕ) → j < m → PassesEach j → IsRejected (entangled c) p level j
  unfolding entangled
  from j q each =
      all_rejected_by m Local j q (λ I h.
      let n = set_number m I in
      let same = members_number m I in
      locally_same_by (entangled c) (AtLevel p level) (members n) I same
      ((tests n (number_below m I)).1 (each n (number_below m I) (same j q ∙ h.member))))

reported : (c : Content) (text : List ℕ) → ReportsWeights c text → ReportsSetWeights c text
reported c text r = record {
  weight = r.0;
  sets = r.2.0;
  text_is = r.2.2;
  all_sets = sets_once (length c.names) r.2.0 r.2.1;
  weights = λ n k p q. r.1 n k p q;
  tests = λ p level n below. tests c r.0 r.1 p level n below;
  decides = λ p level j q. (to c r.0 r.1 p level j q, from c r.0 r.1 p level j q);
}

weights_report : (a : Answer) (c : Content) → IsValidContent c → (answers_on_case Weights c).Gives a → ReportsSetWeights c a.text
unfolding answers_on_case weights_stage
weights_report a c v g = reported c a.text (subst (ReportsWeights c) (sym (ap (λ (x : Answer). x.text) g.2)) g.1.1)

pub weights_of_intersections : WeightsAreOfTheIntersections
weights_of_intersections words format case proof a asks h z = reports_case ReportsSetWeights words format Weights case proof a (weights_report a) asks h z
