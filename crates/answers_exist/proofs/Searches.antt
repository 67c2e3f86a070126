-- The first and the last of the positions below a number for which something holds, if it is known of each whether it does.
use Rattle.std.proofs.Common.{◌⊎◌, inl, inr, sym, subst, ℕ, zero, suc, ◌<◌, arith}
use Rattle.field_core.proofs.Positions.{at_or_below}

module _ (P : ℕ → Type 0) where
  -- the first position for which it holds
  pub record IsFirstBelow (n j : ℕ) : Type 0 where
    pub below : j < n
    pub holds : P j
    pub before : (k : ℕ) → k < j → ¬ P k

  -- the last one below `n`
  pub record IsLastBelow (n j : ℕ) : Type 0 where
    pub below : j < n
    pub holds : P j
    pub after : (k : ℕ) → j < k → k < n → ¬ P k

  -- it holds for none below `n`
  abbrev pub HoldsForNone : ℕ → Type 0
  HoldsForNone n = (k : ℕ) → k < n → ¬ P k

module _ (P : ℕ → Type 0) (decide : (k : ℕ) → P k ⊎ ¬ P k) where
  none_more : (n : ℕ) → HoldsForNone P n → ¬ P n → HoldsForNone P (suc n)
  none_more n none here k h = elim (at_or_below k n h) [ inl e ↦ subst (λ i. ¬ P i) (sym e) here | inr b ↦ none k b ]

  pub first_or_none : (n : ℕ) → ((j : ℕ) × IsFirstBelow P n j) ⊎ HoldsForNone P n
  first_or_none zero = inr (λ k h. absurd (omega (arith, h)))
  first_or_none (suc n) = elim (first_or_none n) [
    | inl f ↦ inl (f.0, record { below = (let b = f.1.below in omega (arith, b)); holds = f.1.holds; before = f.1.before })
    | inr none ↦ elim (decide n) [
      | inl h ↦ inl (n, record { below = omega arith; holds = h; before = none })
      | inr o ↦ inr (none_more n none o)
    ]
  ]

  pub last_or_none : (n : ℕ) → ((j : ℕ) × IsLastBelow P n j) ⊎ HoldsForNone P n
  last_or_none zero = inr (λ k h. absurd (omega (arith, h)))
  last_or_none (suc n) = elim (decide n) [
    | inl h ↦ inl (n, record { below = omega arith; holds = h; after = λ k p q. absurd (omega (arith, p, q)) })
    | inr o ↦ elim (last_or_none n) [
      | inl l ↦ inl (
        l.0,
        record {
          below = (let b = l.1.below in omega (arith, b));
          holds = l.1.holds;
          after = λ k p q. elim (at_or_below k n q) [ inl e ↦ subst (λ i. ¬ P i) (sym e) o | inr b ↦ l.1.after k p b ];
        },
      )
      | inr none ↦ inr (none_more n none o)
    ]
  ]
