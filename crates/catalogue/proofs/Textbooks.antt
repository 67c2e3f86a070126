-- The cases of Holm's graph, of the fixed sequence and of fallback decide as these rules.
use Rattle.std.proofs.Common.{◌≡◌, ◌≢◌, ◌↔◌, refl, ap, ◌∙◌, sym, subst, ℕ, zero, suc, ◌-◌, ◌^◌, ◌==◌, ◌<◌, ◌≤◌}
use Rattle.std.proofs.Common.{cond, List, [], length, Bool, true, false, Some, None, Ok, pos, ◌-ℤ◌, arith, lit<}
use Rattle.std.specs.Prelude.{if◌then◌else◌}
use Rattle.std.proofs.lemmas.Int.{ints}
use Rattle.std.proofs.lemmas.Bool.Decides.{nat_tests}
use Rattle.field_core.specs.Arithmetic.{number_zero, number_one}
use Rattle.field_core.specs.Fractions.{fraction}
use Rattle.field_core.specs.Limit.{limit}
use Rattle.field_core.specs.Order.{◌≤ε◌}
use Rattle.field_core.specs.Laws.LimitLaws.{limit-fraction}
use Rattle.field_core.specs.Laws.NumberFieldLaws.{field_zero}
use Rattle.field_core.specs.declared.ratio.Ratio.{Ratio}
use Rattle.fraction.specs.View.{number_of}
use Rattle.case_model.specs.Sums.{ratio_at, zero_ratio, number_at, one_ratio}
use Rattle.case_model.specs.Entries.{entry_value}
use Rattle.case_model.specs.CaseFaults.{case_fault}
use Rattle.case_model.specs.Content.{Content, content_of, entangled, ForSingle, IsRejectedIn}
use Rattle.case_model.specs.ClosedTest.{IsRejected}
use Rattle.case_model.specs.EntangledGraph.{EntangledGraph, IsValidEntangled}
use Rattle.case_model.specs.TextbookGraphs.{IsAlone, chain_graph, first_alone, equal_graph, IsHolmGraph, IsSequenceGraph, IsFallbackGraph}
use Rattle.case_model.specs.TextbookRules.{IsFallbackRejected, IsSequenceRejected, IsHolmRejected}
use Rattle.case_model.proofs.FallbackOrders.{fallback_decides}
use Rattle.case_model.proofs.SequenceOrders.{sequence_decides}
use Rattle.case_model.proofs.HolmNumbers.{holm_decides}
use Rattle.case_model.proofs.Thresholds.{good_level}
use Rattle.case_model.proofs.DraftValidity.{valid_of}
use Rattle.case_model.proofs.ValidContents.{valid_content, shape}
use Rattle.case_model.specs.Validity.{IsValidContent}
use Rattle.catalogue.proofs.KnownEnds.{known_ends, known_arrivals}
use Rattle.case_model.proofs.ValidGraphs.{number-zero}
use Rattle.catalogue.specs.NamedGraphs.{constant, part, holm_graph, sequence_graph, fallback_graph}
use Rattle.catalogue.specs.WeightedGraphs.{WeightedGraph, draft_of}
use Rattle.catalogue.specs.Makings.{made}
use Rattle.catalogue.specs.TextbookCases.{DecidesAsHolm, DecidesAsSequence, DecidesAsFallback}
use Rattle.catalogue.proofs.RatiosOf.{part_value}
use Rattle.catalogue.proofs.FoundEdges.{entry_or, entry_or-none, entry_or-some}
use Rattle.catalogue.proofs.AloneCases.{number_of-one, constant_value, no_edge_value, as_many, alone, inputs_are, is_made}

-- ---- edges by their values

pub none_value : entry_value (entry_or None) ≡ number_zero
none_value = ap entry_value entry_or-none ∙ no_edge_value

some_value : (a : Ratio) → entry_value (entry_or (Some (constant a))) ≡ number_of a
some_value a = ap entry_value (entry_or-some (constant a)) ∙ constant_value a

next_value : (b : Bool) → entry_value (entry_or (cond b (Some (constant one_ratio)) None)) ≡ cond b number_one number_zero
next_value true = some_value one_ratio ∙ number_of-one
next_value false = none_value

one_less : (n : ℕ) → 0 < n → pos (n - 1) ≡ pos n -ℤ pos 1
one_less n h = omega (arith, ints)

holm_value : (n i j : ℕ) (b : Bool) → (i == j) ≡ b → i < n → j < n → n < 2 ^ 127
    → entry_value (entry_or (cond b None (Some (constant (part (n - 1)))))) ≡ cond b number_zero (fraction (pos 1) (pos n -ℤ pos 1))
holm_value n i j true e h g few = none_value
holm_value n i j false e h g few =
    let d : i ≢ j = grind (arith, nat_tests) in
    some_value (part (n - 1)) ∙ part_value (n - 1) (omega arith) (omega arith) ∙ ap (fraction (pos 1)) (one_less n (omega arith))

first_value : (i : ℕ) → number_of (if i == 0 then one_ratio else zero_ratio) ≡ first_alone i
first_value zero = number_of-one
first_value (suc i) = let t : (suc i == 0) ≡ false = grind (arith, nat_tests) in ap (λ b. number_of (cond b one_ratio zero_ratio)) t
    ∙ number-zero zero_ratio refl

-- ---- the graphs

pub few_are_short : (n : ℕ) → n ≤ 64 → n < 2 ^ 127
few_are_short n h = let k : 64 < 2 ^ 127 = lit< tt in omega (arith, h, k)

pub holm_is : (n : ℕ) (alpha : Ratio) (ps : List Ratio) → 1 ≤ n → n ≤ 64
    → IsAlone (equal_graph n) (entangled (content_of (draft_of (holm_graph n) alpha ps)))
unfolding holm_graph
holm_is n alpha ps some few =
    let short = few_are_short n few in
    alone (holm_graph n) alpha ps (equal_graph n) (λ i h. part_value n (omega arith) short) (λ i k h g. holm_value n i k (i == k) refl h g short)

pub sequence_is : (n : ℕ) (alpha : Ratio) (ps : List Ratio) → IsSequenceGraph (entangled (content_of (draft_of (sequence_graph n) alpha ps)))
unfolding sequence_graph
sequence_is n alpha ps = alone (sequence_graph n) alpha ps (chain_graph first_alone) (λ i h. first_value i) (λ i k h g. next_value (k == suc i))

pub fallback_is : (ws : List Ratio) (alpha : Ratio) (ps : List Ratio)
    → IsFallbackGraph (number_at ws) (entangled (content_of (draft_of (fallback_graph ws) alpha ps)))
unfolding fallback_graph
fallback_is ws alpha ps = alone (fallback_graph ws) alpha ps (chain_graph (number_at ws)) (λ i h. refl) (λ i k h g. next_value (k == suc i))

pub fallback_plain : (ws : List Ratio) (i : ℕ) → limit (number_at ws i) ≡ number_at ws i
fallback_plain ws i = let p = (ratio_at ws i).valid.positive in limit-fraction (ratio_at ws i).num (ratio_at ws i).den (λ e. omega (arith, ints))

-- ---- decisions

module _ (G : WeightedGraph) (alpha : Ratio) (ps : List Ratio) (faultless : case_fault (draft_of G alpha ps) ≡ None) where
  E : EntangledGraph
  E = entangled (content_of (draft_of G alpha ps))

  is_valid : IsValidContent (content_of (draft_of G alpha ps))
  is_valid = valid_of (draft_of G alpha ps) (known_ends G alpha ps) (known_arrivals G alpha ps) faultless

  valid : IsValidEntangled (entangled (content_of (draft_of G alpha ps)))
  valid = valid_content (content_of (draft_of G alpha ps)) is_valid

  low : number_zero ≤ε number_of alpha
  unfolding content_of draft_of
  low = subst (λ z. z ≤ε number_of alpha) field_zero (good_level alpha (shape (content_of (draft_of G alpha ps)) is_valid).level).nonneg

  -- what a rule decides on the graph, it decides on the case
  decides : (Rejects : ℕ → Type 0) → ¬ (ps ≡ [])
      → ((j : ℕ) → IsRejected (entangled (content_of (draft_of G alpha ps))) (number_at ps) (number_of alpha) j ↔ Rejects j)
      → (j : ℕ) → IsRejectedIn (content_of (draft_of G alpha ps)) j ↔ Rejects j
  unfolding content_of draft_of
  decides Rejects some law j =
      subst (λ i. ForSingle i (λ qs. IsRejected (entangled (content_of (draft_of G alpha ps))) (number_at qs) (number_of alpha) j) ↔ Rejects j)
      (sym (inputs_are G alpha ps some)) (law j)

pub holm_rule : (n m : ℕ) (alpha : Ratio) (ps : List Ratio) (c : Content) → n ≡ m → 1 ≤ n → n ≤ 64
    → made (draft_of (holm_graph n) alpha ps) ≡ Ok c → DecidesAsHolm m alpha ps c
unfolding holm_graph
holm_rule n m alpha ps c same some few h given =
    let M = is_made (draft_of (holm_graph n) alpha ps) c h in
    let E = entangled (content_of (draft_of (holm_graph n) alpha ps)) in
    let size : E.hypotheses ≡ n = as_many (holm_graph n) alpha ps in
    let law : (j : ℕ) → IsRejected E (number_at ps) (number_of alpha) j ↔ IsHolmRejected (number_at ps) (number_of alpha) m j
    = λ j. subst (λ k. IsRejected E (number_at ps) (number_of alpha) j ↔ IsHolmRejected (number_at ps) (number_of alpha) k j) (size ∙ same)
    (holm_decides (number_at ps) (number_of alpha) E (valid (holm_graph n) alpha ps M.faultless)
    (subst (λ k. IsAlone (equal_graph k) E) (sym size) (holm_is n alpha ps some few)) (low (holm_graph n) alpha ps M.faultless) j) in
    subst (λ k. (j : ℕ) → IsRejectedIn k j ↔ IsHolmRejected (number_at ps) (number_of alpha) m j) M.content
    (decides (holm_graph n) alpha ps M.faultless (IsHolmRejected (number_at ps) (number_of alpha) m) given law)

pub sequence_rule : (n m : ℕ) (alpha : Ratio) (ps : List Ratio) (c : Content) → n ≡ m → made (draft_of (sequence_graph n) alpha ps) ≡ Ok c
    → DecidesAsSequence m alpha ps c
unfolding sequence_graph
sequence_rule n m alpha ps c same h given =
    let M = is_made (draft_of (sequence_graph n) alpha ps) c h in
    let E = entangled (content_of (draft_of (sequence_graph n) alpha ps)) in
    let size : E.hypotheses ≡ n = as_many (sequence_graph n) alpha ps in
    let law : (j : ℕ) → IsRejected E (number_at ps) (number_of alpha) j ↔ IsSequenceRejected (number_at ps) (number_of alpha) m j
    = λ j. subst (λ k. IsRejected E (number_at ps) (number_of alpha) j ↔ IsSequenceRejected (number_at ps) (number_of alpha) k j) (size ∙ same)
    (sequence_decides (number_at ps) (number_of alpha) E (valid (sequence_graph n) alpha ps M.faultless) (sequence_is n alpha ps)
    (low (sequence_graph n) alpha ps M.faultless) j) in
    subst (λ k. (j : ℕ) → IsRejectedIn k j ↔ IsSequenceRejected (number_at ps) (number_of alpha) m j) M.content
    (decides (sequence_graph n) alpha ps M.faultless (IsSequenceRejected (number_at ps) (number_of alpha) m) given law)

pub fallback_rule : (ws : List Ratio) (alpha : Ratio) (ps : List Ratio) (c : Content) → made (draft_of (fallback_graph ws) alpha ps) ≡ Ok c
    → DecidesAsFallback ws alpha ps c
unfolding fallback_graph
fallback_rule ws alpha ps c h given =
    let M = is_made (draft_of (fallback_graph ws) alpha ps) c h in
    let E = entangled (content_of (draft_of (fallback_graph ws) alpha ps)) in
    let size : E.hypotheses ≡ length ws = as_many (fallback_graph ws) alpha ps in
    let law : (j : ℕ) → IsRejected E (number_at ps) (number_of alpha) j ↔ IsFallbackRejected (number_at ps) (number_of alpha) (length ws) (number_at ws) j
    = λ j. subst (λ k. IsRejected E (number_at ps) (number_of alpha) j ↔ IsFallbackRejected (number_at ps) (number_of alpha) k (number_at ws) j) size
    (fallback_decides (number_at ps) (number_of alpha) (number_at ws) E (valid (fallback_graph ws) alpha ps M.faultless) (fallback_is ws alpha ps)
    (λ i b. fallback_plain ws i) (low (fallback_graph ws) alpha ps M.faultless) j) in
    subst (λ k. (j : ℕ) → IsRejectedIn k j ↔ IsFallbackRejected (number_at ps) (number_of alpha) (length ws) (number_at ws) j) M.content
    (decides (fallback_graph ws) alpha ps M.faultless (IsFallbackRejected (number_at ps) (number_of alpha) (length ws) (number_at ws)) given law)

-- ---- what is made has these graphs

pub holm_made : (n : ℕ) (alpha : Ratio) (ps : List Ratio) (c : Content) → 1 ≤ n → n ≤ 64 → made (draft_of (holm_graph n) alpha ps) ≡ Ok c
    → IsHolmGraph (entangled c)
unfolding holm_graph
holm_made n alpha ps c some few h =
    let M = is_made (draft_of (holm_graph n) alpha ps) c h in
    let E = entangled (content_of (draft_of (holm_graph n) alpha ps)) in
    subst (λ k. IsHolmGraph (entangled k)) M.content
    (subst (λ k. IsAlone (equal_graph k) E) (sym (as_many (holm_graph n) alpha ps)) (holm_is n alpha ps some few))

pub sequence_made : (n : ℕ) (alpha : Ratio) (ps : List Ratio) (c : Content) → made (draft_of (sequence_graph n) alpha ps) ≡ Ok c
    → IsSequenceGraph (entangled c)
sequence_made n alpha ps c h = subst (λ k. IsSequenceGraph (entangled k)) (is_made (draft_of (sequence_graph n) alpha ps) c h).content (sequence_is n alpha ps)

pub fallback_made : (ws : List Ratio) (alpha : Ratio) (ps : List Ratio) (c : Content) → made (draft_of (fallback_graph ws) alpha ps) ≡ Ok c
    → IsFallbackGraph (number_at ws) (entangled c)
fallback_made ws alpha ps c h = subst (λ k. IsFallbackGraph (number_at ws) (entangled k)) (is_made (draft_of (fallback_graph ws) alpha ps) c h).content
    (fallback_is ws alpha ps)
