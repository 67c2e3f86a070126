-- The graph of parallel gatekeeping is valid.
use Rattle.std.proofs.Common.{◌≡◌, ◌≢◌, inl, inr, refl, sym, ap, ◌∙◌, subst, ℕ, zero, suc, ◌+◌, ◌-◌, ◌==◌, ◌<◌, ◌≤◌, arith, cond}
use Rattle.std.specs.Prelude.{nat_lt}
use Rattle.field_core.specs.Field.{AtMost}
use Rattle.field_core.specs.Number.{Number}
use Rattle.field_core.specs.Arithmetic.{number_zero, number_one, ◌+ε◌}
use Rattle.field_core.specs.Order.{◌≤ε◌}
use Rattle.field_core.specs.Fractions.{one_over}
use Rattle.field_core.specs.NumberField.{number_field}
use Rattle.field_core.specs.Sums.{sum_below}
use Rattle.field_core.specs.Graph.{Graph, IsValid}
use Rattle.field_core.specs.Laws.Order.{number_laws}
use Rattle.field_core.specs.Laws.AtMostLaws.{at_most_refl, at_most_equal, zero_at_most_one, positive-at_least_zero}
use Rattle.field_core.specs.Laws.NumberFieldLaws.{field_zero, field_one, field_sum, sum_nothing, sum_last}
use Rattle.field_core.proofs.RemovalLaws.{same_or_not}
use Rattle.field_core.proofs.SumLaws.{sum_congr, sum_zero}
use Rattle.field_core.proofs.Positions.{test_same, test_other, below_or_above}
use Rattle.field_core.proofs.UnitFractions.{one_over_positive}
use Rattle.field_core.proofs.EqualShares.{equal_valid}
use Rattle.case_model.specs.EntangledGraph.{EntangledGraph, IsValidEntangled}
use Rattle.textbook.specs.Gatekeeping.{gatekeeping_graph, IsGatekeepingGraph}
use Rattle.textbook.proofs.GateShares.{in_first, in_second}
use Rattle.textbook.proofs.ValidAlone.{low, high, alone_is_valid, all_parts, one_too_many}

-- ---- sums

plus_nothing : (x : Number) → x +ε number_zero ≡ x
plus_nothing x = simp number_laws

regrouped : (x y z : Number) → (x +ε y) +ε z ≡ x +ε (y +ε z)
regrouped x y z = simp number_laws

-- a sum over two families, one after the other
two_families : (a b : ℕ) (f : ℕ → Number)
    → sum_below number_field (a + b) f ≡ sum_below number_field a f +ε sum_below number_field b (λ k. f (a + k))
two_families a zero f =
    let e : a + 0 ≡ a = omega arith in
    ap (λ n. sum_below number_field n f) e ∙ sym (ap (λ z. sum_below number_field a f +ε z) (sum_nothing (λ k. f (a + k))) ∙ plus_nothing (sum_below number_field a f))
two_families a (suc b) f =
    let e : a + suc b ≡ suc (a + b) = omega arith in
    ap (λ n. sum_below number_field n f) e ∙ sum_last (a + b) f ∙ ap (λ z. z +ε f (a + b)) (two_families a b f)
    ∙ regrouped (sum_below number_field a f) (sum_below number_field b (λ k. f (a + k))) (f (a + b))
    ∙ ap (λ z. sum_below number_field a f +ε z) (sym (sum_last b (λ k. f (a + k))))

none_at_all : (n : ℕ) → sum_below number_field n (λ _. number_zero) ≡ number_zero
none_at_all n = subst (λ z. sum_below number_field n (λ _. z) ≡ z) field_zero (sum_zero number_field n)

equal_parts : (n : ℕ) → sum_below number_field n (λ _. one_over n) ≤ε number_one
equal_parts zero = subst (λ z. z ≤ε number_one) (sym (sum_nothing (λ _. one_over 0))) zero_at_most_one
equal_parts (suc n) = at_most_equal _ _ (all_parts n)

-- a sum over two families of which the one has nothing
second_alone : (a b : ℕ) (f g : ℕ → Number) → ((k : ℕ) → k < a → f k ≡ number_zero) → ((k : ℕ) → k < b → f (a + k) ≡ g k)
    → sum_below number_field b g ≤ε number_one → sum_below number_field (a + b) f ≤ε number_one
second_alone a b f g none some total =
    let e = sum_congr number_field a f (λ _. number_zero) none ∙ none_at_all a in
    let d = sum_congr number_field b (λ k. f (a + k)) g some in
    subst (λ z. z ≤ε number_one) (sym (two_families a b f ∙ ap (λ z. z +ε sum_below number_field b (λ k. f (a + k))) e
    ∙ ap (λ z. number_zero +ε z) d ∙ nothing_plus (sum_below number_field b g))) total
  where
    nothing_plus : (x : Number) → number_zero +ε x ≡ x
    nothing_plus x = simp number_laws

first_alone : (a b : ℕ) (f g : ℕ → Number) → ((k : ℕ) → k < a → f k ≡ g k) → ((k : ℕ) → k < b → f (a + k) ≡ number_zero)
    → sum_below number_field a g ≤ε number_one → sum_below number_field (a + b) f ≤ε number_one
first_alone a b f g some none total =
    let e = sum_congr number_field a f g some in
    let d = sum_congr number_field b (λ k. f (a + k)) (λ _. number_zero) none ∙ none_at_all b in
    subst (λ z. z ≤ε number_one) (sym (two_families a b f ∙ ap (λ z. z +ε sum_below number_field b (λ k. f (a + k))) e
    ∙ ap (λ z. sum_below number_field a g +ε z) d ∙ plus_nothing (sum_below number_field a g))) total

-- ---- the graph that the secondary hypotheses have among them

part_low : (n : ℕ) → number_zero ≤ε one_over (suc n)
part_low n = positive-at_least_zero _ (one_over_positive n)

abbrev among : ℕ → Graph Number
among b = record { weight = λ _. one_over b; edge = λ i k. cond (i == k) number_zero (one_over (b - 1)) }

among_loop : (b i : ℕ) → (among b).edge i i ≡ number_zero
among_loop b i = ap (λ t. cond t number_zero (one_over (b - 1))) (test_same i i refl)

among_other : (b i k : ℕ) → i ≢ k → (among b).edge i k ≡ one_over (b - 1)
among_other b i k n = ap (λ t. cond t number_zero (one_over (b - 1))) (test_other i k n)

among_valid : (b : ℕ) → IsValid number_field (suc b) (among (suc b))
among_valid zero =
    equal_valid number_field 1 (one_over 1) number_zero (among 1) (low _ (part_low 0)) (low _ (at_most_refl number_zero))
    (all_parts 0 ∙ sym field_one) (λ h. absurd (omega (arith, h))) (λ i p. refl) (λ i k p q n. absurd (omega (arith, p, q, n)))
    (λ i p. among_loop 1 i ∙ sym field_zero)
among_valid (suc n) =
    equal_valid number_field (suc (suc n)) (one_over (suc (suc n))) (one_over (suc n)) (among (suc (suc n)))
    (low _ (part_low (suc n))) (low _ (part_low n)) (all_parts (suc n) ∙ sym field_one)
    (λ _. one_too_many n ∙ sym (field_sum number_field.𝟙 (one_over (suc n)) ∙ ap (λ z. z +ε one_over (suc n)) field_one))
    (λ i p. refl) (λ i k p q d. among_other (suc (suc n)) i k d ∙ ap one_over (less n)) (λ i p. among_loop (suc (suc n)) i ∙ sym field_zero)
  where
    less : (n : ℕ) → suc (suc n) - 1 ≡ suc n
    less n = omega arith

-- ---- the graph of both families

module _ (a b : ℕ) where
  abbrev G : Graph Number
  G = gatekeeping_graph a b

  primary_weight : (i : ℕ) → i < a → G.weight i ≡ one_over a
  primary_weight i h = ap (λ t. cond t (one_over a) number_zero) (in_first i a h)

  secondary_weight : (i : ℕ) → a ≤ i → G.weight i ≡ number_zero
  secondary_weight i h = ap (λ t. cond t (one_over a) number_zero) (in_second i a h)

  to_primary : (i k : ℕ) → k < a → G.edge i k ≡ number_zero
  to_primary i k h = ap (λ t. cond t number_zero (cond (nat_lt i a) (one_over b) (cond (i == k) number_zero (one_over (b - 1))))) (in_first k a h)

  to_secondary : (i k : ℕ) → a ≤ k → G.edge i k ≡ cond (nat_lt i a) (one_over b) (cond (i == k) number_zero (one_over (b - 1)))
  to_secondary i k h = ap (λ t. cond t number_zero (cond (nat_lt i a) (one_over b) (cond (i == k) number_zero (one_over (b - 1))))) (in_second k a h)

  from_primary : (i k : ℕ) → i < a → a ≤ k → G.edge i k ≡ one_over b
  from_primary i k p q = to_secondary i k q ∙ ap (λ t. cond t (one_over b) (cond (i == k) number_zero (one_over (b - 1)))) (in_first i a p)

  -- two secondary hypotheses, by their places among the secondary ones
  from_secondary : (i k : ℕ) → G.edge (a + i) (a + k) ≡ (among b).edge i k
  from_secondary i k =
      to_secondary (a + i) (a + k) (omega arith)
      ∙ ap (λ t. cond t (one_over b) (cond (a + i == a + k) number_zero (one_over (b - 1)))) (in_second (a + i) a (omega arith))
      ∙ ap (λ t. cond t number_zero (one_over (b - 1))) (same_test i k)
    where
      same_test : (i k : ℕ) → (a + i == a + k) ≡ (i == k)
      same_test i k = elim (same_or_not i k) [
        | inl e ↦ test_same (a + i) (a + k) (ap (λ z. a + z) e) ∙ sym (test_same i k e)
        | inr n ↦ test_other (a + i) (a + k) (λ e. n (omega (arith, e))) ∙ sym (test_other i k n)
      ]

  -- Whether a position is of the first family, or which place it has in the second.
  place : (i : ℕ) → a ≤ i → a + (i - a) ≡ i
  place i h = omega arith

  low_out : (x : Number) → AtMost number_field number_field.𝟘 x → number_zero ≤ε x
  low_out x h = subst (λ z. z ≤ε x) field_zero h

  among_rows : (c i : ℕ) → i < c → sum_below number_field c ((among c).edge i) ≤ε number_one
  among_rows zero i p = absurd (omega (arith, p))
  among_rows (suc n) i p = subst (λ z. sum_below number_field (suc n) ((among (suc n)).edge i) ≤ε z) field_one ((among_valid n).row_total i p)

  among_edges : (c i k : ℕ) → i < c → k < c → number_zero ≤ε (among c).edge i k
  among_edges zero i k p q = absurd (omega (arith, p))
  among_edges (suc n) i k p q = low_out _ ((among_valid n).edge_nonneg i k p q)

  some_part : (c : ℕ) → 0 < c → number_zero ≤ε one_over c
  some_part zero p = absurd (omega (arith, p))
  some_part (suc n) p = part_low n

  weights_low : (i : ℕ) → i < a + b → number_zero ≤ε G.weight i
  weights_low i p = elim (below_or_above i a) [
    | inl h ↦ subst (λ z. number_zero ≤ε z) (sym (primary_weight i h)) (some_part a (omega (arith, h)))
    | inr h ↦ subst (λ z. number_zero ≤ε z) (sym (secondary_weight i h)) (at_most_refl number_zero)
  ]

  weights_total : sum_below number_field (a + b) G.weight ≤ε number_one
  weights_total = first_alone a b G.weight (λ _. one_over a) primary_weight (λ k h. secondary_weight (a + k) (omega arith)) (equal_parts a)

  edges_low : (i k : ℕ) → i < a + b → k < a + b → number_zero ≤ε G.edge i k
  edges_low i k p q = elim (below_or_above k a) [
    | inl h ↦ subst (λ z. number_zero ≤ε z) (sym (to_primary i k h)) (at_most_refl number_zero)
    | inr h ↦ elim (below_or_above i a) [
      | inl g ↦ subst (λ z. number_zero ≤ε z) (sym (from_primary i k g h)) (some_part b (omega (arith, q, h)))
      | inr g ↦
          let e : G.edge i k ≡ (among b).edge (i - a) (k - a) =
          sym (ap (λ z. G.edge z (a + (k - a))) (place i g) ∙ ap (G.edge i) (place k h)) ∙ from_secondary (i - a) (k - a) in
          subst (λ z. number_zero ≤ε z) (sym e) (among_edges b (i - a) (k - a) (omega (arith, p, g)) (omega (arith, q, h)))
    ]
  ]

  loops_none : (i : ℕ) → i < a + b → G.edge i i ≡ number_zero
  loops_none i p = elim (below_or_above i a) [
    | inl h ↦ to_primary i i h
    | inr h ↦ sym (ap (λ z. G.edge z z) (place i h)) ∙ from_secondary (i - a) (i - a) ∙ among_loop b (i - a)
  ]

  rows_total : (i : ℕ) → i < a + b → sum_below number_field (a + b) (G.edge i) ≤ε number_one
  rows_total i p = elim (below_or_above i a) [
    | inl h ↦ second_alone a b (G.edge i) (λ _. one_over b) (to_primary i) (λ k q. from_primary i (a + k) h (omega arith)) (equal_parts b)
    | inr h ↦ second_alone a b (G.edge i) ((among b).edge (i - a)) (to_primary i)
        (λ k q. sym (ap (λ z. G.edge z (a + k)) (place i h)) ∙ from_secondary (i - a) k) (among_rows b (i - a) (omega (arith, p, h)))
  ]

  -- a graph with the weights and edges of this one is valid
  as_valid : (H : Graph Number) → ((i : ℕ) → i < a + b → H.weight i ≡ G.weight i)
      → ((i k : ℕ) → i < a + b → k < a + b → H.edge i k ≡ G.edge i k) → IsValid number_field (a + b) H
  as_valid H w e = record {
    weight_nonneg = λ i p. low _ (subst (λ z. number_zero ≤ε z) (sym (w i p)) (weights_low i p));
    weight_total = high _ (subst (λ z. z ≤ε number_one) (sym (sum_congr number_field (a + b) H.weight G.weight w)) weights_total);
    edge_nonneg = λ i k p q. low _ (subst (λ z. number_zero ≤ε z) (sym (e i k p q)) (edges_low i k p q));
    no_loop = λ i p. e i i p p ∙ loops_none i p ∙ sym field_zero;
    row_total = λ i p. high _ (subst (λ z. z ≤ε number_one) (sym (sum_congr number_field (a + b) (H.edge i) (G.edge i) (λ k q. e i k p q))) (rows_total i p));
  }

pub gatekeeping_valid : (E : EntangledGraph) (a b : ℕ) → IsGatekeepingGraph a b E → IsValidEntangled E
gatekeeping_valid E a b A =
    let m = A.families in
    alone_is_valid E (gatekeeping_graph a b) A.graph (subst (λ n. IsValid number_field n (E.graph 0)) (sym m)
    (as_valid a b (E.graph 0) (λ i p. A.graph.weight i (rw m p)) (λ i k p q. A.graph.edge i k (rw m p) (rw m q))))
