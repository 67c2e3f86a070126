-- On the cases of Holm's graph, of fixed sequences, of fallback and of parallel gatekeeping the closed test decides as the rules, and nothing is too wide.
use Rattle.std.proofs.Common.{◌≡◌, refl, sym, ap, subst, ◌∙◌, ℕ, suc, ◌+◌, ◌-◌, ◌==◌, ◌<◌, ◌≤◌, ◌||◌, ◌↔◌, Bool, true, false, cond}
use Rattle.std.proofs.Common.{List, [], length, Some, None, Ok, pos, arith, lit<}
use Rattle.std.specs.Prelude.{nat_lt}
use Rattle.std.proofs.lemmas.Bool.Decides.{nat_tests}
use Rattle.std.proofs.lemmas.Bool.{ltb-false}
use Rattle.std.proofs.lemmas.Int.{ints}
use Rattle.std.proofs.lemmas.List.{length-replicate, get_or-replicate}
use Rattle.std.proofs.lemmas.List.FromFn.{length-map-range_with_len}
use Rattle.field_core.specs.Arithmetic.{number_zero}
use Rattle.field_core.specs.Fractions.{fraction, one_over}
use Rattle.field_core.specs.Laws.LimitLaws.{limit-fraction}
use Rattle.field_core.specs.Laws.NumberFieldLaws.{field_zero}
use Rattle.field_core.specs.Number.{Number}
use Rattle.field_core.specs.Order.{◌≤ε◌}
use Rattle.field_core.specs.declared.ratio.Ratio.{Ratio}
use Rattle.fraction.specs.View.{number_of}
use Rattle.case_model.specs.ClosedTest.{IsRejected}
use Rattle.case_model.specs.Content.{Content, IsRejectedIn, entangled, is_plain}
use Rattle.case_model.specs.EntangledGraph.{IsValidEntangled}
use Rattle.case_model.specs.Sums.{number_at, ratio_at, zero_ratio}
use Rattle.case_model.specs.TextbookGraphs.{IsHolmGraph, IsSequenceGraph, IsFallbackGraph}
use Rattle.case_model.specs.TextbookRules.{IsHolmRejected, IsSequenceRejected, IsFallbackRejected}
use Rattle.case_model.specs.Validity.{IsValidContent}
use Rattle.case_model.proofs.FallbackOrders.{fallback_decides}
use Rattle.case_model.proofs.HolmNumbers.{holm_decides}
use Rattle.case_model.proofs.SequenceOrders.{sequence_decides}
use Rattle.case_model.proofs.Thresholds.{good_level}
use Rattle.case_model.proofs.ValidContents.{valid_content, shape}
use Rattle.catalogue.proofs.PlainCases.{holm_plain, sequence_plain, fallback_plain_case}
use Rattle.catalogue.proofs.RatiosOf.{part_value}
use Rattle.catalogue.proofs.Textbooks.{few_are_short, holm_made, sequence_made, fallback_made}
use Rattle.catalogue.specs.Makings.{made, holm_case, sequence_case, fallback_case, parallel_case}
use Rattle.catalogue.specs.NamedGraphs.{part, holm_graph, sequence_graph, fallback_graph, parallel_graph, equal_weights}
use Rattle.catalogue.specs.Sizes.{size_fault, sizes_fault}
use Rattle.catalogue.specs.WeightedGraphs.{draft_of, name_of}
use Rattle.catalogue.specs.declared.fault.CatalogueFault.TheVariants.{Size}
use Rattle.sequential.specs.OtherPValues.{with_p}
use Rattle.command_words.specs.declared.graph_name.SizedGraph.{SizedGraph}
use Rattle.command_words.specs.declared.graph_name.SizedGraph.TheVariants.{Holm, FixedSequence, Fallback, Parallel, ImprovedParallel}
use Rattle.graph_cli.specs.Graphs.{named_case}
use Rattle.textbook.specs.Gatekeeping.{IsGatekeepingGraph, IsGatekeepingRejected}
use Rattle.textbook.proofs.GateOrders.{gatekeeping_decides}
use Rattle.textbook.proofs.NeverWide.{holm_decisions, sequence_decisions, fallback_decisions, gatekeeping_decisions}
use Rattle.printed.specs.Catalogue.{graph_size, twentieth, HasItsRule}
use Rattle.printed.proofs.GateCases.{parallel_made, parallel_plain}
use Rattle.printed.proofs.RuleTests.{decides_by}
use Rattle.printed.proofs.NamedGraphs.{IsNamedCase, behind_is}

-- ---- the case with p-values

module _ (c : Content) (ps : List Ratio) (V : IsValidContent (with_p c ps)) where
  same_graph : entangled (with_p c ps) ≡ entangled c
  unfolding entangled
  same_graph = refl

  same_plain : is_plain c ≡ true → is_plain (with_p c ps) ≡ true
  unfolding is_plain
  same_plain h = h

  graph_valid : IsValidEntangled (entangled c)
  graph_valid = subst IsValidEntangled same_graph (valid_content (with_p c ps) V)

  low : number_zero ≤ε number_of c.alpha
  low = subst (λ z. z ≤ε number_of c.alpha) field_zero (good_level c.alpha (shape (with_p c ps) V).level).nonneg

  -- what a rule decides on the graph at the level of the case, it decides at 1/20
  carried : (Rule : Number → ℕ → ℕ → Type 0) (n : ℕ) → (entangled c).hypotheses ≡ n → number_of c.alpha ≡ twentieth
      → ((j : ℕ) → IsRejected (entangled c) (number_at ps) (number_of c.alpha) j ↔ Rule (number_of c.alpha) (entangled c).hypotheses j)
      → (j : ℕ) → IsRejectedIn (with_p c ps) j ↔ Rule twentieth n j
  carried Rule n size level law j =
      let rejected = IsRejected (entangled c) (number_at ps) (number_of c.alpha) j in
      subst (λ E. IsRejected E (number_at ps) (number_of c.alpha) j ↔ Rule twentieth n j) (sym same_graph)
      (subst (λ k. rejected ↔ Rule twentieth k j) size (subst (λ l. rejected ↔ Rule l (entangled c).hypotheses j) level (law j)))

-- ---- sizes

size_within : (n : ℕ) → size_fault n ≡ None → (1 ≤ n) × (n ≤ 64)
unfolding size_fault
size_within n e = by (n == 0) (nat_lt 64 n) refl refl e
  where
    by : (s t : Bool) → (n == 0) ≡ s → nat_lt 64 n ≡ t → cond (s || t) (Some (Size n)) None ≡ None → (1 ≤ n) × (n ≤ 64)
    by true t f g h = absurd (cc h)
    by false true f g h = absurd (cc h)
    by false false f g h = (grind (arith, nat_tests), ltb-false 64 n g)

module _ (n : ℕ) (c : Content) (N : IsNamedCase n c) where
  size_is : (entangled c).hypotheses ≡ n
  unfolding entangled
  size_is = ap length N.names ∙ length-map-range_with_len name_of 0 n

  few_names : n ≤ 64 → length c.names ≤ 64
  few_names few = subst (λ k. k ≤ 64) (sym (ap length N.names ∙ length-map-range_with_len name_of 0 n)) few

  level_is : number_of c.alpha ≡ twentieth
  level_is = ap number_of N.level ∙ part_value 20 (omega arith) (lit< tt)

  -- ---- Holm

  pub holm_rule : named_case (Holm n) ≡ Ok c → HasItsRule (Holm n) c
  unfolding named_case holm_case
  holm_rule h =
      let B = behind_is (size_fault n) (made (draft_of (holm_graph n) (part 20) [])) c h in
      let within = size_within n B.none in
      let A = holm_made n (part 20) [] c within.0 within.1 B.is in
      let plain = holm_plain n (part 20) [] c B.is in (
        A,
        decides_by (λ p. IsHolmRejected p twentieth n) c (few_names within.1)
            (λ ps P. let V = N.filled ps P in carried c ps V (λ l k j. IsHolmRejected (number_at ps) l k j) n size_is level_is
            (holm_decides (number_at ps) (number_of c.alpha) (entangled c) (graph_valid c ps V) A (low c ps V)))
            (λ ps P. let V = N.filled ps P in
            holm_decisions (with_p c ps) V (same_plain c ps V plain) (subst IsHolmGraph (sym (same_graph c ps V)) A)),
      )

  -- ---- fixed sequence

  pub sequence_rule : named_case (FixedSequence n) ≡ Ok c → HasItsRule (FixedSequence n) c
  unfolding named_case sequence_case
  sequence_rule h =
      let B = behind_is (size_fault n) (made (draft_of (sequence_graph n) (part 20) [])) c h in
      let within = size_within n B.none in
      let A = sequence_made n (part 20) [] c B.is in
      let plain = sequence_plain n (part 20) [] c B.is in (
        A,
        decides_by (λ p. IsSequenceRejected p twentieth n) c (few_names within.1)
            (λ ps P. let V = N.filled ps P in carried c ps V (λ l k j. IsSequenceRejected (number_at ps) l k j) n size_is level_is
            (sequence_decides (number_at ps) (number_of c.alpha) (entangled c) (graph_valid c ps V) A (low c ps V)))
            (λ ps P. let V = N.filled ps P in
            sequence_decisions (with_p c ps) V (same_plain c ps V plain) (subst IsSequenceGraph (sym (same_graph c ps V)) A)),
      )

  -- ---- fallback with equal weights

  equal_weight : (i : ℕ) → 1 ≤ n → n ≤ 64 → i < n → number_at (equal_weights n) i ≡ one_over n
  unfolding equal_weights ratio_at
  equal_weight i some few p = ap number_of (get_or-replicate n i (part n) zero_ratio p) ∙ part_value n (omega arith) (few_are_short n few)

  count_is : length (equal_weights n) ≡ n
  unfolding equal_weights
  count_is = length-replicate n (part n)

  equal_chain : 1 ≤ n → n ≤ 64 → IsFallbackGraph (number_at (equal_weights n)) (entangled c) → IsFallbackGraph (λ i. one_over n) (entangled c)
  equal_chain some few A = record {
    one = A.one;
    share = A.share;
    weight = λ i p. A.weight i p ∙ equal_weight i some few (subst (λ k. i < k) size_is p);
    edge = A.edge;
  }

  pub fallback_rule : named_case (Fallback n) ≡ Ok c → HasItsRule (Fallback n) c
  unfolding named_case fallback_case
  fallback_rule h =
      let B = behind_is (size_fault (length (equal_weights n))) (made (draft_of (fallback_graph (equal_weights n)) (part 20) [])) c h in
      let within = size_within n (ap size_fault (sym count_is) ∙ B.none) in
      let A = equal_chain within.0 within.1 (fallback_made (equal_weights n) (part 20) [] c B.is) in
      let plain = fallback_plain_case (equal_weights n) (part 20) [] c B.is in
      let d = n - 1 in
      let next : n ≡ suc d = omega (arith, within.0) in (
        A,
        decides_by (λ p. IsFallbackRejected p twentieth n (λ i. one_over n)) c (few_names within.1)
            (λ ps P. let V = N.filled ps P in carried c ps V (λ l k j. IsFallbackRejected (number_at ps) l k (λ i. one_over n) j) n size_is level_is
            (fallback_decides (number_at ps) (number_of c.alpha) (λ i. one_over n) (entangled c) (graph_valid c ps V) A
            (λ i p. limit-fraction (pos 1) (pos n) (λ e. omega (arith, ints, within.0))) (low c ps V)))
            (λ ps P. let V = N.filled ps P in
            fallback_decisions (with_p c ps) (λ i. 1) d V (same_plain c ps V plain) (omega (arith, within.1))
            (subst (IsFallbackGraph (λ i. fraction (pos 1) (pos (suc d)))) (sym (same_graph c ps V))
            (subst (λ k. IsFallbackGraph (λ i. fraction (pos 1) (pos k)) (entangled c)) next A))),
      )

-- ---- parallel gatekeeping

parallel_rule : (a b : ℕ) (c : Content) → IsNamedCase (a + b) c → named_case (Parallel a b) ≡ Ok c → HasItsRule (Parallel a b) c
unfolding named_case parallel_case
parallel_rule a b c N h =
    let B = behind_is (sizes_fault a b) (made (draft_of (parallel_graph a b) (part 20) [])) c h in
    let few = few_families a b c N in
    let A = parallel_made a b few (part 20) [] c B.is in
    let plain = parallel_plain a b (part 20) [] c B.is in (
      A,
      decides_by (λ p. IsGatekeepingRejected p twentieth a b) c (few_names (a + b) c N few)
          (λ ps P. let V = N.filled ps P in
          carried c ps V (λ l k j. IsGatekeepingRejected (number_at ps) l a b j) (a + b) (size_is (a + b) c N) (level_is (a + b) c N)
          (gatekeeping_decides (number_at ps) (number_of c.alpha) a b (entangled c) (graph_valid c ps V) A (low c ps V)))
          (λ ps P. let V = N.filled ps P in
          gatekeeping_decisions (with_p c ps) a b V (same_plain c ps V plain) (subst (IsGatekeepingGraph a b) (sym (same_graph c ps V)) A)),
    )
  where
    few_families : (a b : ℕ) (c : Content) → IsNamedCase (a + b) c → a + b ≤ 64
    few_families a b c N =
        subst (λ k. k ≤ 64) (ap length N.names ∙ length-map-range_with_len name_of 0 (a + b)) (shape c N.valid).few

pub has_rule : (graph : SizedGraph) (c : Content) → IsNamedCase (graph_size graph) c → named_case graph ≡ Ok c → HasItsRule graph c
has_rule (Holm n) c N h = holm_rule n c N h
has_rule (FixedSequence n) c N h = sequence_rule n c N h
has_rule (Fallback n) c N h = fallback_rule n c N h
has_rule (Parallel a b) c N h = parallel_rule a b c N h
has_rule (ImprovedParallel a b) c N h = tt
