-- On a case of the graph of a textbook rule, whoever wrote it, `test` reports what the rule rejects at the level of the case.
use Rattle.std.proofs.Common.{◌≡◌, sym, ap, subst, ◌↔◌, ℕ, suc, pos, List, length, arith}
use Rattle.std.proofs.lemmas.Int.{ints}
use Rattle.field_core.specs.Arithmetic.{number_zero}
use Rattle.field_core.specs.Laws.LimitLaws.{limit-fraction}
use Rattle.field_core.specs.Laws.NumberFieldLaws.{field_zero}
use Rattle.field_core.specs.Order.{◌≤ε◌}
use Rattle.field_core.specs.declared.ratio.Ratio.{Ratio}
use Rattle.fraction.specs.View.{number_of}
use Rattle.case_model.specs.ClosedTest.{IsRejected}
use Rattle.case_model.specs.Content.{Content, ForSingle, IsRejectedIn, entangled}
use Rattle.case_model.specs.Sums.{number_at}
use Rattle.case_model.specs.TextbookRules.{IsHolmRejected, IsSequenceRejected, IsFallbackRejected}
use Rattle.case_model.specs.Validity.{IsValidContent}
use Rattle.case_model.specs.declared.inputs.Inputs.TheVariants.{Single}
use Rattle.case_model.proofs.FallbackOrders.{fallback_decides}
use Rattle.case_model.proofs.HolmNumbers.{holm_decides}
use Rattle.case_model.proofs.SequenceOrders.{sequence_decides}
use Rattle.case_model.proofs.Thresholds.{good_level}
use Rattle.case_model.proofs.ValidContents.{valid_content, shape}
use Rattle.command_words.specs.Asked.{Encoding}
use Rattle.textbook.specs.Gatekeeping.{IsGatekeepingRejected}
use Rattle.textbook.proofs.GateOrders.{gatekeeping_decides}
use Rattle.textbook.proofs.NeverWide.{holm_decisions, sequence_decisions, fallback_decisions, gatekeeping_decisions}
use Rattle.graph_cli.specs.Accepted.{case_in}
use Rattle.graph_cli.proofs.ClosedReports.{valid_said}
use Rattle.printed.specs.Rules.{over, HolmGraphsAreTestedByHolm, SequencesAreTestedInOrder, FallbacksAreTestedByFallback, GatesAreTestedByGatekeeping}
use Rattle.printed.proofs.RuleTests.{tested}

-- a case that bytes denote is valid
given_valid : (format : Encoding) (bytes : List ℕ) (c : Content) → (case_in format bytes).Gives c → IsValidContent c
given_valid format bytes c g = subst IsValidContent (sym g.2.1) (valid_said format bytes g.0 g.1 g.2.0)

module _ (c : Content) (ps : List Ratio) (single : c.inputs ≡ Single ps) (V : IsValidContent c) where
  low : number_zero ≤ε number_of c.alpha
  low = subst (λ z. z ≤ε number_of c.alpha) field_zero (good_level c.alpha (shape c V).level).nonneg

  -- what a rule decides on the graph and by the p-values of a case, it decides on the case
  in_case : (Rule : ℕ → ℕ → Type 0)
      → ((j : ℕ) → IsRejected (entangled c) (number_at ps) (number_of c.alpha) j ↔ Rule (entangled c).hypotheses j)
      → (j : ℕ) → IsRejectedIn c j ↔ Rule (length c.names) j
  unfolding entangled
  in_case Rule law j =
      let is : ForSingle c.inputs (λ ps. IsRejected (entangled c) (number_at ps) (number_of c.alpha) j)
      ≡ IsRejected (entangled c) (number_at ps) (number_of c.alpha) j =
      ap (λ i. ForSingle i (λ ps. IsRejected (entangled c) (number_at ps) (number_of c.alpha) j)) single in
      (λ h. (law j).0 (subst (λ T. T) is h), λ h. subst (λ T. T) (sym is) ((law j).1 h))

pub holm_tested : HolmGraphsAreTestedByHolm
holm_tested words format priority bytes proof c ps a g within single plain A asks h =
    let V = given_valid format bytes c g in
    tested _ c ps single (shape c V).few
    (in_case c ps single V (λ n j. IsHolmRejected (number_at ps) (number_of c.alpha) n j)
    (holm_decides (number_at ps) (number_of c.alpha) (entangled c) (valid_content c V) A (low c ps single V)))
    (holm_decisions c V plain A) words format priority bytes proof a g within asks h

pub sequence_tested : SequencesAreTestedInOrder
sequence_tested words format priority bytes proof c ps a g within single plain A asks h =
    let V = given_valid format bytes c g in
    tested _ c ps single (shape c V).few
    (in_case c ps single V (λ n j. IsSequenceRejected (number_at ps) (number_of c.alpha) n j)
    (sequence_decides (number_at ps) (number_of c.alpha) (entangled c) (valid_content c V) A (low c ps single V)))
    (sequence_decisions c V plain A) words format priority bytes proof a g within asks h

pub fallback_tested : FallbacksAreTestedByFallback
fallback_tested w d small words format priority bytes proof c ps a g within single plain A asks h =
    let V = given_valid format bytes c g in
    tested _ c ps single (shape c V).few
    (in_case c ps single V (λ n j. IsFallbackRejected (number_at ps) (number_of c.alpha) n (over w d) j)
    (fallback_decides (number_at ps) (number_of c.alpha) (over w d) (entangled c) (valid_content c V) A
    (λ i p. limit-fraction (pos (w i)) (pos (suc d)) (λ e. omega (arith, ints))) (low c ps single V)))
    (fallback_decisions c w d V plain small A) words format priority bytes proof a g within asks h

pub gates_tested : GatesAreTestedByGatekeeping
gates_tested a b words format priority bytes proof c ps answer g within single plain A asks h =
    let V = given_valid format bytes c g in
    tested _ c ps single (shape c V).few
    (in_case c ps single V (λ n j. IsGatekeepingRejected (number_at ps) (number_of c.alpha) a b j)
    (gatekeeping_decides (number_at ps) (number_of c.alpha) a b (entangled c) (valid_content c V) A (low c ps single V)))
    (gatekeeping_decisions c a b V plain A) words format priority bytes proof answer g within asks h
