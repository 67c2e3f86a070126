-- The order of lists is total.
use Rattle.std.proofs.Common.{◌≡◌, ◌⊎◌, inl, inr, refl, sym, ap₂, ℕ, arith, List, [], ◌∷◌}
use Rattle.field_core.specs.OrderOfSets.{ComesBefore, IsNextList, IsLastList}
use Rattle.field_core.proofs.Positions.{compared}
use Rattle.field_core.proofs.NextLists.{first_step, child_step, sibling_step, last_one}

pub ordered : (js ks : List ℕ) → ComesBefore js ks ⊎ (ComesBefore ks js ⊎ (js ≡ ks))
ordered [] [] = inr (inr refl)
ordered [] (k ∷ ks) = inl tt
ordered (j ∷ js) [] = inr (inl tt)
ordered (j ∷ js) (k ∷ ks) = elim (compared j k) [
  | inr (inl low) ↦ inl (inl low)
  | inr (inr high) ↦ inr (inl (inl high))
  | inl e ↦ elim (ordered js ks) [
    | inl b ↦ inl (inr (e, b))
    | inr (inl b) ↦ inr (inl (inr (sym e, b)))
    | inr (inr f) ↦ inr (inr (ap₂ (λ i is. i ∷ is) e f))
  ]
]

pub one_way : (js ks : List ℕ) → ComesBefore js ks → ComesBefore ks js → ⊥
one_way js [] b c = b
one_way [] (k ∷ ks) b c = c
one_way (j ∷ js) (k ∷ ks) (inl b) (inl c) = absurd (omega (arith, b, c))
one_way (j ∷ js) (k ∷ ks) (inl b) (inr c) = absurd (omega (arith, b, c.0))
one_way (j ∷ js) (k ∷ ks) (inr b) (inl c) = absurd (omega (arith, b.0, c))
one_way (j ∷ js) (k ∷ ks) (inr b) (inr c) = one_way js ks b.1 c.1

pub not_itself : (js : List ℕ) → ComesBefore js js → ⊥
not_itself js b = one_way js js b b

-- ---- two hypotheses

pub both_then_second : IsNextList 2 [] (0 ∷ [])
both_then_second = (first_step 2 (omega arith)).next

pub second_then_none : IsNextList 2 (0 ∷ []) (0 ∷ 1 ∷ [])
second_then_none = (child_step 2 0 [] (omega arith, omega arith, tt) (omega arith)).next

pub none_then_first : IsNextList 2 (0 ∷ 1 ∷ []) (1 ∷ [])
none_then_first = (sibling_step 2 0 1 [] (omega arith, omega arith, (omega arith, omega arith, tt)) (omega arith) (omega arith)).next

pub first_is_last : IsLastList 2 (1 ∷ [])
first_is_last = last_one 2 1 (omega arith) (omega arith)
