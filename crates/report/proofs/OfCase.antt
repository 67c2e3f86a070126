-- Each line of a decision is of a hypothesis of its case.
use Rattle.std.proofs.Common.{◌≡◌, sym, subst, ℕ, ◌<◌, Bool, List, [], ◌∷◌, length, arith}
use Rattle.std.specs.List.{All, filter, range_with_len}
use Rattle.std.proofs.lemmas.List.{length-map, get_or-map}
use Rattle.std.proofs.lemmas.List.Elements.{All-nil, All-cons, All-get_or, All-from_get_or, All-filter}
use Rattle.std.proofs.lemmas.List.FromFn.{get_or-range_with_len, length-range_with_len}
use Rattle.field_core.specs.declared.ratio.Ratio.{Ratio}
use Rattle.field_core.specs.Number.{Number}
use Rattle.field_core.specs.Sets.{dropping, whole}
use Rattle.field_core.specs.Runs.{left_after}
use Rattle.case_model.specs.EntangledGraph.{EntangledGraph}
use Rattle.case_model.specs.LegalOrder.{IsOrderBy}
use Rattle.fraction.specs.View.{number_of}
use Rattle.case_model.specs.Sums.{number_at, zero_ratio}
use Rattle.case_model.specs.Content.{Content, entangled}
use Rattle.case_model.proofs.SingleInputs.{for_single}
use Rattle.sequential.specs.declared.decision.StepLine.{StepLine}
use Rattle.sequential.specs.declared.decision.Decision.{Decision}
use Rattle.sequential.specs.Decisions.{IsNext, IsDecisionWith, hypotheses}
use Rattle.sequential.specs.declared.priority.Priority.{Priority}
use Rattle.sequential.specs.declared.priority.Priority.TheVariants.{First, Last, Ratio as ByRatio}
use Rattle.report.specs.TestReport.{AreOfCase}
use Rattle.report.specs.ReportStatements.{DecisionsAreOfTheirCases}

-- a line is of one of a number of hypotheses
abbrev IsBelow : ℕ → StepLine → Type 0
IsBelow m x = x.hypothesis < m

module _ (E : EntangledGraph) (p : ℕ → Number) (level : Number) where
  -- what a priority takes is a hypothesis of the graph
  next_below : (priority : Priority) (I : ℕ → Bool) (j : ℕ) → IsNext E p level priority I j → j < E.hypotheses
  next_below First I j h = h.allowed.member.below
  next_below Last I j h = h.allowed.member.below
  next_below ByRatio I j h = h.legal.member.below

  steps_below : (priority : Priority) (I : ℕ → Bool) (xs : List StepLine) → IsOrderBy (IsNext E p level priority) I (hypotheses xs)
      → All (IsBelow E.hypotheses) xs
  steps_below priority I [] h = All-nil (IsBelow E.hypotheses)
  steps_below priority I (x ∷ xs) h = All-cons (IsBelow E.hypotheses) x xs (next_below priority I x.hypothesis h.0)
      (steps_below priority (dropping x.hypothesis I) xs h.1)

range_below : (m : ℕ) → All (λ j. j < m) (range_with_len 0 m)
range_below m = All-from_get_or (λ j. j < m) (range_with_len 0 m) 0 (λ i h.
    let within : i < m = subst (λ n. i < n) (length-range_with_len 0 m) h in
    let place = get_or-range_with_len 0 m i 0 within in omega (arith, place, within))

nothing : StepLine
nothing = record { hypothesis = 0; weight = zero_ratio }

kept_below : (m : ℕ) (keep : ℕ → Bool) (xs : List StepLine) → hypotheses xs ≡ filter keep (range_with_len 0 m) → All (IsBelow m) xs
kept_below m keep xs e = All-from_get_or (IsBelow m) xs nothing (λ i h.
    let all : All (λ j. j < m) (hypotheses xs) = subst (All (λ j. j < m)) (sym e) (All-filter keep (λ j. j < m) (range_with_len 0 m) (range_below m)) in
    let here : i < length (hypotheses xs) = rw length-map h in
    subst (λ j. j < m) (get_or-map (λ x. x.hypothesis) xs i nothing 0 h) (All-get_or (λ j. j < m) (hypotheses xs) i 0 here all))

with_p_values : (c : Content) (ps : List Ratio) (priority : Priority) (d : Decision) → IsDecisionWith c ps priority d → AreOfCase c d.steps
    × AreOfCase c d.kept
unfolding entangled
with_p_values c ps priority d h = (
  steps_below (entangled c) (number_at ps) (number_of c.alpha) priority whole d.steps h.order.order,
  kept_below (length c.names) (left_after whole (hypotheses d.steps)) d.kept h.kept,
)

pub of_their_cases : DecisionsAreOfTheirCases
of_their_cases c priority d = for_single (λ ps. IsDecisionWith c ps priority d) (λ _. AreOfCase c d.steps × AreOfCase c d.kept)
    (λ ps. with_p_values c ps priority d) c.inputs
