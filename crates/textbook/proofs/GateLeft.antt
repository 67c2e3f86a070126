-- The graph of parallel gatekeeping, and what is left of it where a set remains: numbers in place of a field.
use Rattle.std.proofs.Common.{◌≡◌, ◌≢◌, inl, inr, sym, ap, ap₂, ◌∙◌, ℕ, zero, suc, ◌+◌, ◌-◌, ◌<◌, ◌≤◌, ◌==◌, arith, Bool, cond}
use Rattle.std.proofs.Common.{if◌then◌else◌, [], ◌∷◌, pos}
use Rattle.std.specs.Prelude.{nat_lt}
use Rattle.std.proofs.lemmas.Int.{ints}
use Rattle.field_core.specs.Number.{Number}
use Rattle.field_core.specs.Arithmetic.{number_zero, number_one, ◌+ε◌, ◌*ε◌}
use Rattle.field_core.specs.Order.{IsPositive}
use Rattle.field_core.specs.Fractions.{fraction, one_over}
use Rattle.field_core.specs.NumberField.{number_field}
use Rattle.field_core.specs.Graph.{Graph}
use Rattle.field_core.specs.Sets.{IsIn, dropping, whole, size_of}
use Rattle.field_core.specs.Laws.FractionLaws.{fraction-multiply, fraction-zero, fraction-sign, quotient-zero, lowest-constant}
use Rattle.field_core.specs.Laws.Order.{number_laws}
use Rattle.field_core.specs.Laws.PolynomialLaws.{positive_in}
use Rattle.field_core.specs.Laws.Effective.{product_positive}
use Rattle.field_core.proofs.Agreement.{Agrees}
use Rattle.field_core.proofs.ClosedForms.{IsClosedForm}
use Rattle.field_core.proofs.Positions.{test_other, below_or_above}
use Rattle.field_core.proofs.Sizes.{size_whole}
use Rattle.field_core.proofs.UnitFractions.{one_over_parts, next_count}
use Rattle.field_core.proofs.UnitLimits.{suc_not_zero}
use Rattle.textbook.specs.Gatekeeping.{gatekeeping_graph}
use Rattle.textbook.proofs.GateShares.{in_first, in_second, seconds, seconds_same, seconds_less, gate_left, gate_closed, first_weight, second_weight}
use Rattle.textbook.proofs.GateShares.{first_edge, second_edge}

-- ---- parts of the level

-- the part that `r` of `a` hypotheses have
abbrev pub parts : ℕ → ℕ → Number
parts a r = fraction (pos r) (pos a)

over_none : (n : ℕ) → fraction (pos n) (pos 0) ≡ number_zero
over_none n = quotient-zero (pos n ∷ []) (pos 0 ∷ []) (lowest-constant (pos 0))

no_more : number_zero ≡ number_zero +ε number_zero
no_more = simp number_laws

as_product : (a r : ℕ) → parts (suc a) r ≡ one_over (suc a) *ε fraction (pos r) (pos 1)
as_product a r = sym (fraction-multiply (pos 1) (pos (suc a)) (pos r) (pos 1) (suc_not_zero a) (suc_not_zero 0)
    ∙ ap₂ (λ x y. fraction x y) (omega (arith, ints)) (omega (arith, ints)))

spread_one : (c x : Number) → c *ε (x +ε number_one) ≡ c *ε x +ε c
spread_one c x = simp number_laws

pub parts_more : (a r : ℕ) → parts a (suc r) ≡ parts a r +ε one_over a
parts_more zero r = over_none (suc r) ∙ no_more ∙ ap₂ (λ x y. x +ε y) (sym (over_none r)) (sym (over_none 1))
parts_more (suc a) r =
    as_product a (suc r) ∙ ap (λ z. one_over (suc a) *ε z) (next_count r) ∙ spread_one (one_over (suc a)) (fraction (pos r) (pos 1))
    ∙ ap (λ z. z +ε one_over (suc a)) (sym (as_product a r))

pub parts_none : (a : ℕ) → parts a 0 ≡ number_zero
parts_none zero = over_none 0
parts_none (suc a) = fraction-zero (pos (suc a)) (suc_not_zero a)

pub parts_positive : (a r : ℕ) → IsPositive (parts (suc a) (suc r))
parts_positive a r = fraction-sign (pos (suc r)) (pos (suc a)) (suc_not_zero a)
    ∙ positive_in _ (product_positive (pos (suc r)) (pos (suc a)) (omega (arith, ints)) (omega (arith, ints)))

pub field_more : (a r : ℕ) → parts a (suc r) ≡ number_field.◌⊕◌ (parts a r) (one_over a)
unfolding number_field
field_more a r = parts_more a r

-- ---- what is left

module _ (a m : ℕ) (within : a ≤ m) where
  -- what is left of the graph where `I` remains
  abbrev pub left : (ℕ → Bool) → Graph Number
  left = gate_left number_field one_over one_over_parts (one_over a) (parts a) (field_more a) a m within

  pub left_closed : IsClosedForm number_field m left
  left_closed = gate_closed number_field one_over one_over_parts (one_over a) (parts a) (field_more a) a m within

  pub left_first : (I : ℕ → Bool) (l : ℕ) → l < a → (left I).weight l ≡ one_over a
  left_first = first_weight number_field one_over one_over_parts (one_over a) (parts a) (field_more a) a m within

  pub left_second : (I : ℕ → Bool) (l : ℕ) → a ≤ l → (left I).weight l ≡ parts a (a - size_of a I) *ε one_over (seconds a m within I)
  unfolding number_field
  left_second = second_weight number_field one_over one_over_parts (one_over a) (parts a) (field_more a) a m within

  pub edge_first : (I : ℕ → Bool) (l k : ℕ) → k < a → (left I).edge l k ≡ number_zero
  unfolding number_field
  edge_first = first_edge number_field one_over one_over_parts (one_over a) (parts a) (field_more a) a m within

  pub edge_second : (I : ℕ → Bool) (l k : ℕ) → a ≤ k → (left I).edge l k ≡ one_over (seconds a m within (dropping l I))
  edge_second = second_edge number_field one_over one_over_parts (one_over a) (parts a) (field_more a) a m within

pub nothing_of : (x : Number) → number_zero *ε x ≡ number_zero
nothing_of x = simp number_laws

-- ---- the graph of gatekeeping is what is left of all

module _ (a b m : ℕ) (families : m ≡ a + b) (within : a ≤ m) where
  start_weight : (l : ℕ) → (gatekeeping_graph a b).weight l ≡ (left a m within whole).weight l
  start_weight l = elim (below_or_above l a) [
    | inl h ↦ ap (λ t. cond t (one_over a) number_zero) (in_first l a h) ∙ sym (left_first a m within whole l h)
    | inr h ↦
        let none : a - size_of a whole ≡ 0 = let e = size_whole a in omega (arith, e) in
        ap (λ t. cond t (one_over a) number_zero) (in_second l a h) ∙ sym (nothing_of (one_over (seconds a m within whole)))
        ∙ ap (λ z. z *ε one_over (seconds a m within whole)) (sym (ap (parts a) none ∙ parts_none a))
        ∙ sym (left_second a m within whole l h)
  ]

  all_seconds : seconds a m within whole ≡ b
  all_seconds = let e = size_whole m in let f = size_whole a in omega (arith, e, f, families)

  abbrev passed_on : ℕ → ℕ → Number
  passed_on l k = if nat_lt l a then one_over b else (if l == k then number_zero else one_over (b - 1))

  start_edge : (l k : ℕ) → IsIn m whole l → l ≢ k → (gatekeeping_graph a b).edge l k ≡ (left a m within whole).edge l k
  start_edge l k p n = elim (below_or_above k a) [
    | inl h ↦ ap (λ t. cond t number_zero (passed_on l k)) (in_first k a h) ∙ sym (edge_first a m within whole l k h)
    | inr h ↦ ap (λ t. cond t number_zero (passed_on l k)) (in_second k a h) ∙ elim (below_or_above l a) [
      | inl q ↦ ap (λ t. cond t (one_over b) (if l == k then number_zero else one_over (b - 1))) (in_first l a q)
          ∙ ap one_over (sym (seconds_same a m within whole l p q ∙ all_seconds)) ∙ sym (edge_second a m within whole l k h)
      | inr q ↦
          let e = seconds_less a m within whole l p q in
          ap₂ (λ t u. cond t (one_over b) (cond u number_zero (one_over (b - 1)))) (in_second l a q) (test_other l k n)
          ∙ ap one_over (omega (arith, e, all_seconds)) ∙ sym (edge_second a m within whole l k h)
    ]
  ]

  pub gate_start : Agrees m whole (gatekeeping_graph a b) (left a m within whole)
  gate_start = record { weight = λ l p. start_weight l; edge = λ l k p q n. start_edge l k p n }
