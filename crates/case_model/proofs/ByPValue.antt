-- The positions by ascending p-value.
use Rattle.std.proofs.Common.{◌≡◌, ◌⊎◌, inl, inr, refl, sym, ap, ◌∙◌, subst, ℕ, zero, suc, ◌<◌, arith, true, false, cond, List, []}
use Rattle.std.proofs.Common.{◌∷◌, length}
use Rattle.field_core.specs.Number.{Number}
use Rattle.field_core.specs.Order.{◌≤ε◌, at_most}
use Rattle.field_core.specs.Laws.AtMostLaws.{at_most_trans, at_most_total}
use Rattle.field_core.proofs.Live.{true_or_false, true_not_false}
use Rattle.case_model.specs.LegalOrder.{IsListed}
use Rattle.case_model.specs.TextbookRules.{Precedes, IsByPValue, inserted, by_p_value}
use Rattle.field_core.proofs.Positions.{at_or_below}
use Rattle.case_model.proofs.RejectionOrders.{listed_here, listed_later, here_or_later}

-- each one of a list is listed once
abbrev pub IsDistinct : List ℕ → Type 0
IsDistinct [] = Unit {0}
IsDistinct (j ∷ js) = (¬ IsListed js j) × IsDistinct js

not_nothing : (i : ℕ) → ¬ IsListed [] i
not_nothing i h = cc

module _ (p : ℕ → Number) where
  inserted_none : (k : ℕ) → inserted p k [] ≡ k ∷ []
  unfolding inserted
  inserted_none k = refl

  inserted_behind : (k j : ℕ) (js : List ℕ) → at_most (p j) (p k) ≡ true → inserted p k (j ∷ js) ≡ j ∷ inserted p k js
  unfolding inserted
  inserted_behind k j js t = ap (λ b. cond b (j ∷ inserted p k js) (k ∷ j ∷ js)) t

  inserted_before : (k j : ℕ) (js : List ℕ) → at_most (p j) (p k) ≡ false → inserted p k (j ∷ js) ≡ k ∷ j ∷ js
  unfolding inserted
  inserted_before k j js f = ap (λ b. cond b (j ∷ inserted p k js) (k ∷ j ∷ js)) f

  by_p_value_none : by_p_value p zero ≡ []
  unfolding by_p_value
  by_p_value_none = refl

  by_p_value_next : (n : ℕ) → by_p_value p (suc n) ≡ inserted p n (by_p_value p n)
  unfolding by_p_value
  by_p_value_next n = refl

  -- ---- what is inserted

  inserted_length : (k : ℕ) (js : List ℕ) → length (inserted p k js) ≡ suc (length js)
  inserted_length k [] = ap length (inserted_none k)
  inserted_length k (j ∷ js) = elim (true_or_false (at_most (p j) (p k))) [
    | inl t ↦ ap length (inserted_behind k j js t) ∙ ap suc (inserted_length k js)
    | inr f ↦ ap length (inserted_before k j js f)
  ]

  in_inserted : (k : ℕ) (js : List ℕ) (i : ℕ) → (i ≡ k) ⊎ IsListed js i → IsListed (inserted p k js) i
  in_inserted k [] i h = subst (λ ks. IsListed ks i) (sym (inserted_none k))
      (elim h [ inl e ↦ subst (λ a. IsListed (k ∷ []) a) (sym e) (listed_here k []) | inr l ↦ absurd (not_nothing i l) ])
  in_inserted k (j ∷ js) i h = elim (true_or_false (at_most (p j) (p k))) [
    | inl t ↦ subst (λ ks. IsListed ks i) (sym (inserted_behind k j js t)) (elim h [
      | inl e ↦ listed_later j i (inserted p k js) (in_inserted k js i (inl e))
      | inr l ↦ elim (here_or_later j i js l) [
        | inl e ↦ subst (λ a. IsListed (j ∷ inserted p k js) a) (sym e) (listed_here j (inserted p k js))
        | inr q ↦ listed_later j i (inserted p k js) (in_inserted k js i (inr q))
      ]
    ])
    | inr f ↦ subst (λ ks. IsListed ks i) (sym (inserted_before k j js f)) (elim h [
      | inl e ↦ subst (λ a. IsListed (k ∷ j ∷ js) a) (sym e) (listed_here k (j ∷ js))
      | inr l ↦ listed_later k i (j ∷ js) l
    ])
  ]

  of_inserted : (k : ℕ) (js : List ℕ) (i : ℕ) → IsListed (inserted p k js) i → (i ≡ k) ⊎ IsListed js i
  of_inserted k [] i h = elim (here_or_later k i [] (subst (λ ks. IsListed ks i) (inserted_none k) h)) [ inl e ↦ inl e | inr l ↦ inr l ]
  of_inserted k (j ∷ js) i h = elim (true_or_false (at_most (p j) (p k))) [
    | inl t ↦ elim (here_or_later j i (inserted p k js) (subst (λ ks. IsListed ks i) (inserted_behind k j js t) h)) [
      | inl e ↦ inr (subst (λ a. IsListed (j ∷ js) a) (sym e) (listed_here j js))
      | inr l ↦ elim (of_inserted k js i l) [ inl e ↦ inl e | inr q ↦ inr (listed_later j i js q) ]
    ]
    | inr f ↦ here_or_later k i (j ∷ js) (subst (λ ks. IsListed ks i) (inserted_before k j js f) h)
  ]

  inserted_distinct : (k : ℕ) (js : List ℕ) → ¬ IsListed js k → IsDistinct js → IsDistinct (inserted p k js)
  inserted_distinct k [] n d = subst IsDistinct (sym (inserted_none k)) (not_nothing k, tt)
  inserted_distinct k (j ∷ js) n d = elim (true_or_false (at_most (p j) (p k))) [
    | inl t ↦ subst IsDistinct (sym (inserted_behind k j js t)) (
      λ l. elim (of_inserted k js j l) [ inl e ↦ n (subst (λ a. IsListed (j ∷ js) a) e (listed_here j js)) | inr q ↦ d.0 q ],
      inserted_distinct k js (λ l. n (listed_later j k js l)) d.1,
    )
    | inr f ↦ subst IsDistinct (sym (inserted_before k j js f)) (n, d)
  ]

  above : (j k : ℕ) → at_most (p j) (p k) ≡ false → p k ≤ε p j
  above j k f = elim (at_most_total (p j) (p k)) [ inl h ↦ absurd (true_not_false (sym h ∙ f)) | inr h ↦ h ]

  -- a greater position goes after those with the same p-value
  inserted_ordered : (k : ℕ) (js : List ℕ) → ((j : ℕ) → IsListed js j → j < k) → IsByPValue p js → IsByPValue p (inserted p k js)
  inserted_ordered k [] below o = subst (IsByPValue p) (sym (inserted_none k)) (λ i l. absurd (not_nothing i l), tt)
  inserted_ordered k (j ∷ js) below o = elim (true_or_false (at_most (p j) (p k))) [
    | inl t ↦ subst (IsByPValue p) (sym (inserted_behind k j js t)) (
      λ i l. elim (of_inserted k js i l) [
        | inl e ↦ subst (Precedes p j) (sym e) record { not_above = t; tie = λ _. below j (listed_here j js) }
        | inr q ↦ o.0 i q
      ],
      inserted_ordered k js (λ i l. below i (listed_later j i js l)) o.1,
    )
    | inr f ↦ subst (IsByPValue p) (sym (inserted_before k j js f)) (
      λ i l. elim (here_or_later j i js l) [
        | inl e ↦ subst (Precedes p k) (sym e) record { not_above = above j k f; tie = λ h. absurd (true_not_false (sym h ∙ f)) }
        | inr q ↦ record {
          not_above = at_most_trans (p k) (p j) (p i) (above j k f) (o.0 i q).not_above;
          tie = λ h. absurd (true_not_false (sym (at_most_trans (p j) (p i) (p k) (o.0 i q).not_above h) ∙ f));
        }
      ],
      o,
    )
  ]

  -- ---- all positions

  pub by_p_value_length : (n : ℕ) → length (by_p_value p n) ≡ n
  by_p_value_length zero = ap length by_p_value_none
  by_p_value_length (suc n) = ap length (by_p_value_next n) ∙ inserted_length n (by_p_value p n) ∙ ap suc (by_p_value_length n)

  pub by_p_value_below : (n i : ℕ) → IsListed (by_p_value p n) i → i < n
  by_p_value_below zero i h = absurd (not_nothing i (subst (λ ks. IsListed ks i) by_p_value_none h))
  by_p_value_below (suc n) i h = elim (of_inserted n (by_p_value p n) i (subst (λ ks. IsListed ks i) (by_p_value_next n) h)) [
    | inl e ↦ omega (arith, e)
    | inr l ↦ let b : i < n = by_p_value_below n i l in omega (arith, b)
  ]

  pub by_p_value_all : (n i : ℕ) → i < n → IsListed (by_p_value p n) i
  by_p_value_all zero i h = absurd (omega (arith, h))
  by_p_value_all (suc n) i h = subst (λ ks. IsListed ks i) (sym (by_p_value_next n))
      (in_inserted n (by_p_value p n) i (elim (at_or_below i n h) [ inl e ↦ inl e | inr b ↦ inr (by_p_value_all n i b) ]))

  pub by_p_value_distinct : (n : ℕ) → IsDistinct (by_p_value p n)
  by_p_value_distinct zero = subst IsDistinct (sym by_p_value_none) tt
  by_p_value_distinct (suc n) = subst IsDistinct (sym (by_p_value_next n))
      (inserted_distinct n (by_p_value p n) (λ l. let b : n < n = by_p_value_below n n l in absurd (omega (arith, b))) (by_p_value_distinct n))

  pub by_p_value_ordered : (n : ℕ) → IsByPValue p (by_p_value p n)
  by_p_value_ordered zero = subst (IsByPValue p) (sym by_p_value_none) tt
  by_p_value_ordered (suc n) = subst (IsByPValue p) (sym (by_p_value_next n)) (inserted_ordered n (by_p_value p n) (by_p_value_below n) (by_p_value_ordered n))
