-- Legal orders and the closed test, for any rule that allows members alone, and allows in each smaller set what it allows in a set. An example is
-- what passes at a weight and still passes at a greater one.
use Rattle.std.proofs.Common.{◌≡◌, inl, inr, refl, sym, ap, ◌∙◌, ℕ, ◌<◌, Bool, false, List, [], ◌∷◌}
use Rattle.field_core.specs.Sets.{IsIn, IsSubset, dropping, whole}
use Rattle.field_core.specs.Runs.{left_after}
use Rattle.field_core.proofs.Live.{dropping_other, true_or_false, true_not_false}
use Rattle.case_model.specs.LegalOrder.{IsListed, IsOrderBy, IsCompleteBy}
use Rattle.case_model.proofs.RejectionOrders.{here_or_later, listed_or_not, not_listed_left}

-- a set without `i` is a subset of what is left once `i` is dropped
pub still_subset : (m i : ℕ) (I J : ℕ → Bool) → IsSubset m J I → J i ≡ false → IsSubset m J (dropping i I)
still_subset m i I J sub f k s e = dropping_other i I k (λ x. true_not_false (sym e ∙ ap J x ∙ f)) ∙ sub k s e

module _ (m : ℕ) (Rule : (ℕ → Bool) → ℕ → Type 0) where
  pub record IsConsonant : Type 0 where
    pub inside : (I : ℕ → Bool) (k : ℕ) → Rule I k → IsIn m I k
    pub smaller : (I J : ℕ → Bool) (k : ℕ) → IsSubset m J I → IsIn m J k → Rule I k → Rule J k

  -- of each set that holds a hypothesis of an order, the rule allows one: the first of the order that is in it
  pub listed_rejects : IsConsonant → (js : List ℕ) (I J : ℕ → Bool) → IsOrderBy Rule I js → IsSubset m J I → (j : ℕ) → IsIn m J j
      → IsListed js j → (k : ℕ) × Rule J k
  listed_rejects C [] I J o sub j p h = absurd (cc)
  listed_rejects C (i ∷ js) I J o sub j p h = elim (true_or_false (J i)) [
    | inl t ↦ (i, C.smaller I J i sub (record { below = (C.inside I i o.0).below; member = t }) o.0)
    | inr f ↦ listed_rejects C js (dropping i I) J o.1 (still_subset m i I J sub f) j p (later f)
  ]
    where
      later : J i ≡ false → IsListed js j
      later f = elim (here_or_later i j js h) [ inl e ↦ absurd (true_not_false (sym p.member ∙ ap J e ∙ f)) | inr l ↦ l ]

  -- where the rule allows none once those of a list are removed, the list has each hypothesis of whose sets it always allows one
  pub all_listed : (js : List ℕ) → IsCompleteBy Rule whole js → (j : ℕ) → j < m → ((J : ℕ → Bool) → IsIn m J j → (k : ℕ) × Rule J k)
      → IsListed js j
  all_listed js complete j q each = elim (listed_or_not js j) [
    | inl l ↦ l
    | inr n ↦ absurd (none (each (left_after whole js) (record { below = q; member = not_listed_left js whole j refl n })))
  ]
    where
      none : ((k : ℕ) × Rule (left_after whole js) k) → ⊥
      none r = complete r.0 r.1
