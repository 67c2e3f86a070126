-- A rule that can be decided has an order from each set on.
use Rattle.std.proofs.Common.{◌≡◌, ◌⊎◌, inl, inr, sym, ◌∙◌, subst, ℕ, zero, suc, ◌<◌, ◌≤◌, arith, Bool, List, [], ◌∷◌}
use Rattle.field_core.specs.Number.{Number}
use Rattle.field_core.specs.Arithmetic.{◌*ε◌}
use Rattle.field_core.specs.Sets.{IsIn, dropping, size_of}
use Rattle.field_core.specs.Laws.AtMostLaws.{at_most_or_above, at_most-compare, positive_or_not, positive-not_at_most}
use Rattle.field_core.proofs.Live.{true_or_false, true_not_false}
use Rattle.field_core.proofs.Positions.{below_or_not, at_or_below}
use Rattle.field_core.proofs.Sizes.{size_dropped}
use Rattle.case_model.specs.EntangledGraph.{EntangledGraph, IsValidEntangled}
use Rattle.case_model.specs.ClosedTest.{Passes, IsLegalBy, AtLevel, IsLegal}
use Rattle.case_model.specs.LegalOrder.{IsRunBy, IsFirst, IsLast, IsLeastLegalRatio, IsFirstOrder, IsLastOrder, IsRatioOrder}
use Rattle.case_model.proofs.IntersectionLaws.{intersection_exists}
use Rattle.case_model.proofs.RejectionOrders.{first_none}
use Rattle.case_model.proofs.LocalTests.{legal_passes_by, passes_legal_by}
use Rattle.case_model.proofs.PriorityOrders.{legal_ratio, least_exists, least_legal}

module _ (m : ℕ) (Rule : (ℕ → Bool) → ℕ → Type 0) (inside : (I : ℕ → Bool) (k : ℕ) → Rule I k → IsIn m I k) where
  run_within : ((I : ℕ → Bool) → ((j : ℕ) × Rule I j) ⊎ ((j : ℕ) → ¬ Rule I j)) → (n : ℕ) (I : ℕ → Bool) → size_of m I ≤ n
      → (js : List ℕ) × IsRunBy Rule I js
  run_within next zero I h = elim (next I) [
    | inl r ↦ absurd (let e = size_dropped m r.0 I (inside I r.0 r.1) in omega (arith, e))
    | inr none ↦ ([], record { order = tt; complete = none })
  ]
  run_within next (suc n) I h = elim (next I) [
    | inl r ↦
        let e : suc (size_of m (dropping r.0 I)) ≡ size_of m I = size_dropped m r.0 I (inside I r.0 r.1) in
        let rest = run_within next n (dropping r.0 I) (omega (arith, e)) in
        (r.0 ∷ rest.0, record { order = (r.1, rest.1.order); complete = rest.1.complete })
    | inr none ↦ ([], record { order = tt; complete = none })
  ]

  pub run_exists : ((I : ℕ → Bool) → ((j : ℕ) × Rule I j) ⊎ ((j : ℕ) → ¬ Rule I j)) → (I : ℕ → Bool) → (js : List ℕ)
      × IsRunBy Rule I js
  run_exists next I = run_within next (size_of m I) I (omega arith)

  -- the first, where each hypothesis is known to be allowed or not
  first_below : (I : ℕ → Bool) → ((k : ℕ) → Rule I k ⊎ ¬ Rule I k) → (n : ℕ) → ((j : ℕ) × IsFirst Rule I j)
      ⊎ ((k : ℕ) → k < n → ¬ Rule I k)
  first_below I decide zero = inr (λ k h. absurd (omega arith))
  first_below I decide (suc n) = elim (first_below I decide n) [
    | inl f ↦ inl f
    | inr none ↦ elim (decide n) [
      | inl r ↦ inl (n, record { allowed = r; least = none })
      | inr f ↦ inr (λ k h r. elim (at_or_below k n h) [ inl e ↦ f (subst (Rule I) e r) | inr b ↦ none k b r ])
    ]
  ]

  pub first_or_none : (I : ℕ → Bool) → ((k : ℕ) → Rule I k ⊎ ¬ Rule I k) → ((j : ℕ) × IsFirst Rule I j)
      ⊎ ((k : ℕ) → ¬ IsFirst Rule I k)
  first_or_none I decide = elim (first_below I decide m) [ inl f ↦ inl f | inr none ↦ inr (λ k f. none k (inside I k f.allowed).below f.allowed) ]

  -- the last of the first `n`
  last_below : (I : ℕ → Bool) → ((k : ℕ) → Rule I k ⊎ ¬ Rule I k) → (n : ℕ) → ((k : ℕ) → Rule I k → k < n)
      → ((j : ℕ) × IsLast Rule I j) ⊎ ((k : ℕ) → ¬ Rule I k)
  last_below I decide zero below = inr (λ k r. let q : k < 0 = below k r in absurd (omega arith))
  last_below I decide (suc n) below = elim (decide n) [
    | inl r ↦ inl (n, record { allowed = r; greatest = λ k h s. let q : k < suc n = below k s in absurd (omega arith) })
    | inr f ↦ last_below I decide n (λ k r. elim (at_or_below k n (below k r)) [ inl e ↦ absurd (f (subst (Rule I) e r)) | inr b ↦ b ])
  ]

  pub last_or_none : (I : ℕ → Bool) → ((k : ℕ) → Rule I k ⊎ ¬ Rule I k) → ((j : ℕ) × IsLast Rule I j) ⊎ ((k : ℕ) → ¬ IsLast Rule I k)
  last_or_none I decide = elim (last_below I decide m (λ k r. (inside I k r).below)) [ inl f ↦ inl f | inr none ↦ inr (λ k f. none k f.allowed) ]

-- ---- legal hypotheses

pub passes_or_not : (p u level : Number) → Passes p u level ⊎ ¬ Passes p u level
passes_or_not p u level = elim (positive_or_not u) [
  | inr n ↦ inr (λ h. positive-not_at_most u h.positive n)
  | inl w ↦ elim (at_most_or_above p (u *ε level)) [
    | inl s ↦ inl (record { positive = w; small = s })
    | inr g ↦ inr (λ h. at_most-compare p (u *ε level) h.small g)
  ]
]

-- (It is known at which weights each hypothesis passes.)
module _ (E : EntangledGraph) (V : IsValidEntangled E) (Test : ℕ → Number → Type 0) (decide : (k : ℕ) (u : Number) → Test k u ⊎ ¬ Test k u) where
  pub legal_or_not_by : (I : ℕ → Bool) (k : ℕ) → IsLegalBy E Test I k ⊎ ¬ IsLegalBy E Test I k
  legal_or_not_by I k = elim (below_or_not k E.hypotheses) [
    | inr n ↦ inr (λ h. n h.member.below)
    | inl b ↦ elim (true_or_false (I k)) [
      | inr f ↦ inr (λ h. true_not_false (sym h.member.member ∙ f))
      | inl t ↦ by_weight (record { below = b; member = t })
    ]
  ]
    where
      by_weight : IsIn E.hypotheses I k → IsLegalBy E Test I k ⊎ ¬ IsLegalBy E Test I k
      by_weight q = let W = intersection_exists E V I k q in elim (decide k W.0) [
        | inl h ↦ inl (passes_legal_by E Test I k W.0 q W.1 h)
        | inr n ↦ inr (λ h. n (legal_passes_by E Test I k W.0 h W.1))
      ]

  pub first_order_exists_by : (I : ℕ → Bool) → (js : List ℕ) × IsRunBy (IsFirst (IsLegalBy E Test)) I js
  first_order_exists_by = run_exists E.hypotheses (IsFirst (IsLegalBy E Test)) (λ I k f. f.allowed.member)
      (λ I. first_or_none E.hypotheses (IsLegalBy E Test) (λ J k h. h.member) I (legal_or_not_by I))

module _ (E : EntangledGraph) (V : IsValidEntangled E) (p : ℕ → Number) (level : Number) where
  pub legal_or_not : (I : ℕ → Bool) (k : ℕ) → IsLegal E p level I k ⊎ ¬ IsLegal E p level I k
  legal_or_not = legal_or_not_by E V (AtLevel p level) (λ j u. passes_or_not (p j) u level)

  -- the least legal ratio, or none
  pub next_or_none : (I : ℕ → Bool) → ((j : ℕ) × IsLeastLegalRatio E p level I j) ⊎ ((j : ℕ) → ¬ IsLeastLegalRatio E p level I j)
  next_or_none I = elim (first_or_none E.hypotheses (IsLegal E p level) (λ J k h. h.member) I (legal_or_not I)) [
    | inr none ↦ inr (λ j L. no_first none j L.legal)
    | inl f ↦ inl (by_legal f.0 f.1.allowed)
  ]
    where
      no_first : ((k : ℕ) → ¬ IsFirst (IsLegal E p level) I k) → (k : ℕ) → ¬ IsLegal E p level I k
      no_first = first_none (IsLegal E p level) I

      by_legal : (k : ℕ) → IsLegal E p level I k → (j : ℕ) × IsLeastLegalRatio E p level I j
      by_legal k h =
          let r = legal_ratio E p I level k h in
          let l = least_exists E p I V k r.0 r.1 in
          (l.0, record { least = l.1; legal = least_legal E p I level l.0 k l.1 h })

  pub first_order_exists : (I : ℕ → Bool) → (js : List ℕ) × IsFirstOrder E p level I js
  first_order_exists = first_order_exists_by E V (AtLevel p level) (λ j u. passes_or_not (p j) u level)

  pub last_order_exists : (I : ℕ → Bool) → (js : List ℕ) × IsLastOrder E p level I js
  last_order_exists = run_exists E.hypotheses (IsLast (IsLegal E p level)) (λ I k f. f.allowed.member)
      (λ I. last_or_none E.hypotheses (IsLegal E p level) (λ J k h. h.member) I (legal_or_not I))

  pub ratio_order_exists : (I : ℕ → Bool) → (js : List ℕ) × IsRatioOrder E p level I js
  ratio_order_exists = run_exists E.hypotheses (IsLeastLegalRatio E p level) (λ I k L. L.legal.member) next_or_none
